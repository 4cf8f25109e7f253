pub mod FormLemmas
pub mod HostLemmas
pub mod MayLemmas
pub mod FormedLemmas
pub mod HashLemmas
pub mod ArrayLemmas
pub mod SeenLemmas

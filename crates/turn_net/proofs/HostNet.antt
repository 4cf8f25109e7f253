pub mod TreeLemmas
pub mod BitLemmas
pub mod HostLemmas
pub mod ValueLemmas
pub mod MachineLemmas

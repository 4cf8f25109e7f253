pub mod PipeDraft
pub mod SlotParts
pub mod TurnParts

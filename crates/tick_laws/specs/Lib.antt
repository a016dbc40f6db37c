pub mod OneEnd
pub mod WithinTick

pub mod WholeFit
pub mod InnerReady

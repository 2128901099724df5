pub mod InnerRightSide

pub mod InLanes

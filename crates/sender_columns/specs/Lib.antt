pub mod FourTrees

pub mod StartFits

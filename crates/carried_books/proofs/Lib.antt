pub mod Shown
pub mod ShownRows
pub mod Standing
pub mod TablesCarried
pub mod GatheredRows
pub mod Told
pub mod Compared

pub mod Down
pub mod FileTables
pub mod Seen
pub mod NoneOrAll
pub mod BankSparing

pub mod LogEnd

pub mod KeyNumbers
pub mod KeyedValues
pub mod Named

pub mod NoArguments

pub mod MayAnswer

pub mod Literals
pub mod States
pub mod AnswerRuleAtWork
pub mod Impossible

-- What the contracts of `rule_checks` cite, in reading order; and laws for callers.
pub mod RuleForm
pub mod Steps
pub mod RuleLaws

pub mod MixtureVerdict

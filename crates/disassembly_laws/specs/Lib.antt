pub mod SameAsStep

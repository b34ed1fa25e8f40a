mod Examples
mod Fitting
mod Joined
mod WholeScript

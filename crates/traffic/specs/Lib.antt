pub mod Arrivals
pub mod Bucket
pub mod Curves
pub mod Examples
pub mod Laws
pub mod Mixture
pub mod Spaced
-- lemmas: the laws of the kinds, which the impls in src/ cite
pub mod Buckets
pub mod Attained
pub mod Credits
pub mod Lists
pub mod Staircase
pub mod Bounded
pub mod Mixing
pub mod Spacing

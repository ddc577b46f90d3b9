-- What only contracts between layers and proofs need.
pub mod IsPatternTrie
pub mod Lists
pub mod Maps
pub mod PrunedFamilies
pub mod RaisedHeads
pub mod FreshLists
pub mod Strings

-- What a token is about: a field, and a state over it.

pub record About (F T : Type 0) : Type 0 where
  pub field : F
  pub of : T

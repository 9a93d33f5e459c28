-- What is left of writing a text.
use Rattle.std.specs.Prelude.{◌≡◌, ℕ, ◌<◌, ◌≤◌, List, length, take, drop}

-- the buffer begins with the text, of n bytes, and goes on as before
pub record Holds (text before after : List ℕ) (n : ℕ) : Type 0 where
  pub long : n ≡ length text
  pub room : n ≤ length before
  pub front : take n after ≡ text
  pub beyond : drop n after ≡ drop n before

-- the text, of n bytes, has no room in the buffer, which is as before
pub record TooShort (text before after : List ℕ) (n : ℕ) : Type 0 where
  pub long : n ≡ length text
  pub short : length before < n
  pub same : after ≡ before

-- Writing into a buffer that may be too short.
use Rattle.std.specs.Prelude.{◌≡◌, ℕ, suc, ◌+◌, ◌-◌, ◌^◌, min, List, [], ◌∷◌, length, slice_set}
use Rattle.words.specs.declared.pen.Pen.{Pen}

-- the buffer with the bytes from a place on; those past its end are lost (there `set` changes nothing)
abbrev pub overlaid : List ℕ → ℕ → List ℕ → List ℕ
overlaid out at [] = out
overlaid out at (b ∷ bs) = overlaid (slice_set out at b) (suc at) bs

-- a pen writes the bytes from its place on, as far as its buffer reaches, and its place goes on by their number, if not past 2^64 - 1
pub record Writes (before : Pen) (bytes : List ℕ) (after : Pen) : Type 0 where
  pub same_buffer : after.out.ghost_name ≡ before.out.ghost_name
  pub place : after.at ≡ min (before.at + length bytes) (2 ^ 64 - 1)
  pub put : after.out.now ≡ overlaid before.out.now before.at bytes

-- What a comparison holds: its phase, the symbols declared and the two automata. Side 0 is A, side 1 is B.
use Rattle.std.specs.Prelude.{ℕ, zero, suc, ◌-◌, [], ◌∷◌, ◌++◌, replicate, slice_set}
use Rattle.equivalence.specs.Automata.{Rule, Automaton, Sides}
use Rattle.session.specs.declared.Phase.{Phase}
use Rattle.session.specs.declared.Phase.TheVariants.{Open}

pub record Session : Type 0 where
  pub phase : Phase
  pub sides : Sides ℕ

-- n states of final weight zero, and no rule
abbrev pub blank : ℕ → Automaton ℕ
blank n = record { finals = replicate n 0; rules = [] }

-- a session as it begins, with its two state counts
abbrev pub begun : ℕ → ℕ → Session
begun n m = record { phase = Open; sides = record { ranks = []; a = blank n; b = blank m } }

abbrev pub side : Sides ℕ → ℕ → Automaton ℕ
side S zero = S.a
side S (suc x) = S.b

abbrev pub with_side : Sides ℕ → ℕ → Automaton ℕ → Sides ℕ
with_side S zero M = record { ranks = S.ranks; a = M; b = S.b }
with_side S (suc x) M = record { ranks = S.ranks; a = S.a; b = M }

-- one symbol more
abbrev pub with_symbol : Sides ℕ → ℕ → Sides ℕ
with_symbol S k = record { ranks = S.ranks ++ (k ∷ []); a = S.a; b = S.b }

-- one rule more, and that on a side
abbrev pub ruled : Automaton ℕ → Rule ℕ → Automaton ℕ
ruled M r = record { finals = M.finals; rules = M.rules ++ (r ∷ []) }

abbrev pub with_rule : Sides ℕ → ℕ → Rule ℕ → Sides ℕ
with_rule S x r = with_side S x (ruled (side S x) r)

-- the final weight of one state replaced, and that on a side
abbrev pub weighted : Automaton ℕ → ℕ → ℕ → Automaton ℕ
weighted M q w = record { finals = slice_set M.finals (q - 1) w; rules = M.rules }

abbrev pub with_final : Sides ℕ → ℕ → ℕ → ℕ → Sides ℕ
with_final S x q w = with_side S x (weighted (side S x) q w)

abbrev pub with_sides : Session → Sides ℕ → Session
with_sides s S = record { phase = s.phase; sides = S }

-- The record of the example text, and that it is valid. Assumes nothing.
use Rattle.std.proofs.Common.{◌≡◌, ℕ, ◌≤◌, true, List, [], ◌∷◌, get_or, codes, refl, ap, arith}
use Rattle.std.proofs.lemmas.Fmt.{decimal_digit}
use Rattle.words.specs.Words.{is_name}
use Rattle.shapes.specs.declared.shape.Kind.TheVariants.{Residues}
use Rattle.format.specs.Records.{Part, Record, Symbol, ValidPart, ValidRecord, ValidRule, text_of}
use Rattle.text.specs.Example.{example}

-- one state, with the rules a → s and f(s, s) → s
abbrev side : List ℕ → ℕ → Part
side s w =
    record {
      states = record { name = s; final = 1 } ∷ [];
      rules =
          record { symbol = 1; target = 1; weight = 1; children = [] }
          ∷ record { symbol = 2; target = 1; weight = w; children = 1 ∷ 1 ∷ [] }
          ∷ [];
    }

abbrev symbols : List Symbol
symbols = record { name = codes "a"; rank = 0 } ∷ record { name = codes "f"; rank = 2 } ∷ []

abbrev pub example_record : Record
example_record =
    record { kind = Residues 7; steps = []; symbols = symbols; a = side (codes "q") 1; b = side (codes "r") 3 }

pub example_text : text_of example_record ≡ example
example_text =
    rw (
      decimal_digit 7 (omega arith),
      decimal_digit 0 (omega arith),
      decimal_digit 2 (omega arith),
      decimal_digit 1 (omega arith),
      decimal_digit 3 (omega arith),
    )

first_rule : ValidRule 7 symbols 1 (record { symbol = 1; target = 1; weight = 1; children = [] })
first_rule =
    record {
      symbol = (omega arith, omega arith);
      rank = refl;
      target = (omega arith, omega arith);
      children = tt;
      weight = omega arith;
    }

second_rule :
    (w : ℕ) → w ≤ 3 → ValidRule 7 symbols 1 (record { symbol = 2; target = 1; weight = w; children = 1 ∷ 1 ∷ [] })
second_rule w h =
    record {
      symbol = (omega arith, omega arith);
      rank = refl;
      target = (omega arith, omega arith);
      children = ((omega arith, omega arith), ((omega arith, omega arith), tt));
      weight = omega arith;
    }

valid_side : (s : List ℕ) (w : ℕ) → is_name s ≡ true → w ≤ 3 → ValidPart 7 symbols (side s w)
valid_side s w n h =
    record {
      some = omega arith;
      few = omega arith;
      names = (n, tt);
      distinct = (tt, tt);
      finals = (omega arith, tt);
      few_rules = omega arith;
      rules = (first_rule, (second_rule w h, tt));
    }

pub example_valid : ValidRecord example_record
example_valid =
    record {
      kind = refl;
      at_most_two = omega arith;
      steps = tt;
      some = omega arith;
      few = omega arith;
      names = (refl, (refl, tt));
      distinct = ((λ e. let z : ◌≡◌ {A = ℕ} 102 97 = ap (λ xs. get_or xs 0 0) e in omega arith, tt), (tt, tt));
      ranks = (omega arith, (omega arith, tt));
      a = valid_side (codes "q") 1 refl (omega arith);
      b = valid_side (codes "r") 3 refl (omega arith);
    }

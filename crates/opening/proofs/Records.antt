-- What a valid record gives is what the calls check. Assumes nothing.
use Rattle.std.proofs.Common.{ℕ, ◌<◌, ◌≤◌, List, map, length}
use Rattle.std.proofs.Props.{props}
use mathlib.Core.Logic.{∥∥₁_elim}
use lib.ListN.{length-map}
use Rattle.std.proofs.ByRecursion.{All-map, All-weaker}
use Rattle.equivalence.specs.Automata.{Rule}
use Rattle.format.specs.Records as records
use Rattle.format.specs.Records.{Part, Record, Symbol, ValidPart, ValidRecord, automaton, field_of, sides}
use Rattle.session.specs.Validity.{ValidRule, ValidSide}
use Rattle.text.specs.Exchange.{declared}
use Rattle.text.specs.declared.record.Record as text

-- the ranks of a record's symbols
abbrev pub ranks : List Symbol → List ℕ
ranks ss = map (λ s. s.rank) ss

rule_valid : (q : ℕ) (ss : List Symbol) (n : ℕ) (r : Rule ℕ) → records.ValidRule q ss n r → ValidRule q (ranks ss) n r
rule_valid q ss n r v =
    record {
      symbol = (v.symbol.0, rw (length-map ss (λ s. s.rank)) v.symbol.1);
      as_many = v.rank;
      target = v.target;
      children = v.children;
      weight = v.weight;
    }

side_valid :
    (q : ℕ) (ss : List Symbol) (p : Part) → ValidPart q ss p → ValidSide q (ranks ss) (length p.states) (automaton p)
side_valid q ss p v =
    record {
      count = length-map p.states (λ s. s.final);
      finals = All-map (λ w. w < q) (λ s. s.final) p.states v.finals;
      rules = All-weaker _ _ (rule_valid q ss (length p.states)) p.rules v.rules;
      few = v.few_rules;
    }

-- one side of a record can be given
pub record ReadyPart (q : ℕ) (ss : List Symbol) (p : Part) : Type 0 where
  pub some : 1 ≤ length p.states
  pub few : length p.states ≤ 12
  pub valid : ValidSide q (ranks ss) (length p.states) (automaton p)

pub record Ready (r : Record) : Type 0 where
  pub few : length r.symbols ≤ 12
  pub a : ReadyPart (field_of r).size r.symbols r.a
  pub b : ReadyPart (field_of r).size r.symbols r.b

ready_part : (q : ℕ) (ss : List Symbol) (p : Part) → ValidPart q ss p → ReadyPart q ss p
ready_part q ss p v = record { some = v.some; few = v.few; valid = side_valid q ss p v }

pub ready : (s : text.Record) → Ready (declared s)
ready s =
    ∥∥₁_elim s.valid (hlevel props)
    (λ v. record { few = v.few; a = ready_part _ _ _ v.a; b = ready_part _ _ _ v.b })

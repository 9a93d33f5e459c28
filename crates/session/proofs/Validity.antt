-- Every call leaves a valid session valid. Assumes nothing.
use Rattle.std.proofs.Common.{◌≡◌, ℕ, zero, suc, ◌-◌, ◌<◌, ◌≤◌, List, [], ◌∷◌, ◌++◌, length, set, replicate, Ok, Err, sym, ◌∙◌, subst, arith}
use Rattle.std.specs.List.{AllByRecursion}
use Rattle.std.proofs.ByRecursion.{All-push, All-set, All-weaker}
use Rattle.std.proofs.lemmas.List.{length_push, length-set, length-replicate, get_or_append_left}
use Rattle.field.specs.Algebra.{Algebra, Lawful}
use Rattle.equivalence.specs.Trees.{rank, Declared}
use Rattle.equivalence.specs.Automata.{Rule, Automaton, states}
use Rattle.session.specs.Calls.{Call, Given, Outcome, AllPass, After, Does, StateOf, checks, call_symbol, call_rule, call_final, call_weigh}
use Rattle.session.specs.Sessions.{Session, begun, blank, with_sides, with_symbol, with_rule, with_final}
use Rattle.session.specs.Runs.{Event, Run}
use Rattle.session.specs.Validity.{ValidRule, ValidSide, ValidSession, Valid}

all_replicate : (q n w : ℕ) → w < q → AllByRecursion (λ x. x < q) (replicate n w)
all_replicate q zero w h = tt
all_replicate q (suc n) w h = (h, all_replicate q n w h)

blank_valid : (q : ℕ) (ranks : List ℕ) (n : ℕ) → 0 < q → ValidSide q ranks n (blank n)
blank_valid q ranks n h =
    record { count = length-replicate n 0; finals = all_replicate q n 0 h; rules = tt; few = omega arith }

pub begun_valid : (A : Algebra) (n m : ℕ) → 0 < A.size → ValidSession A n m (begun n m)
begun_valid A n m h =
    record { few = omega arith; ranks = tt; a = blank_valid A.size [] n h; b = blank_valid A.size [] m h }

-- one symbol more leaves the others as they were
rule_grown : (q : ℕ) (ranks : List ℕ) (k n : ℕ) (r : Rule ℕ) → ValidRule q ranks n r → ValidRule q (ranks ++ (k ∷ [])) n r
rule_grown q ranks k n r v =
    record {
      symbol = (v.symbol.0, omega (arith, length_push ranks k));
      as_many = v.as_many ∙ sym (get_or_append_left ranks (k ∷ []) 0 (r.symbol - 1) (omega arith));
      target = v.target;
      children = v.children;
      weight = v.weight;
    }

side_grown : (q : ℕ) (ranks : List ℕ) (k n : ℕ) (M : Automaton ℕ) → ValidSide q ranks n M → ValidSide q (ranks ++ (k ∷ [])) n M
side_grown q ranks k n M v =
    record {
      count = v.count;
      finals = v.finals;
      rules = All-weaker (ValidRule q ranks n) (ValidRule q (ranks ++ (k ∷ [])) n) (rule_grown q ranks k n) M.rules v.rules;
      few = v.few;
    }

side_with_rule :
    (q : ℕ) (ranks : List ℕ) (n : ℕ) (M : Automaton ℕ) (r : Rule ℕ)
    → ValidSide q ranks n M
    → ValidRule q ranks n r
    → length M.rules < 256
    → ValidSide q ranks n (record { finals = M.finals; rules = M.rules ++ (r ∷ []) })
side_with_rule q ranks n M r v h room =
    record {
      count = v.count;
      finals = v.finals;
      rules = All-push (ValidRule q ranks n) M.rules r v.rules h;
      few = omega (arith, length_push M.rules r);
    }

side_with_final :
    (q : ℕ) (ranks : List ℕ) (n : ℕ) (M : Automaton ℕ) (i w : ℕ)
    → ValidSide q ranks n M
    → w < q
    → ValidSide q ranks n (record { finals = set M.finals i w; rules = M.rules })
side_with_final q ranks n M i w v h =
    record {
      count = length-set M.finals i w ∙ v.count;
      finals = All-set (λ x. x < q) M.finals i w h v.finals;
      rules = v.rules;
      few = v.few;
    }

-- a rule that passed the checks
rule_passed :
    (q : ℕ) (ranks : List ℕ) (n : ℕ) (M : Automaton ℕ) (f t w : ℕ) (ps : List ℕ)
    → states M ≡ n
    → Declared ranks f
    → length ps ≡ rank ranks f
    → StateOf M t
    → AllByRecursion (StateOf M) ps
    → w < q
    → ValidRule q ranks n (record { symbol = f; target = t; weight = w; children = ps })
rule_passed q ranks n M f t w ps count d many target children below =
    record {
      symbol = d;
      as_many = many;
      target = subst (λ (k : ℕ). (1 ≤ t) × (t ≤ k)) count target;
      children = subst (λ (k : ℕ). AllByRecursion (λ p. (1 ≤ p) × (p ≤ k)) ps) count children;
      weight = below;
    }

module _ (A : Algebra) (n m : ℕ) (s : Session) (v : ValidSession A n m s) where
  after_symbol : (k : ℕ) → AllPass (checks A s (call_symbol k)) → ValidSession A n m (with_sides s (with_symbol s.sides k))
  after_symbol k ok =
      record {
        few = omega (arith, length_push s.sides.ranks k, ok.1.1.0);
        ranks = All-push (λ k. k ≤ 3) s.sides.ranks k v.ranks ok.1.0;
        a = side_grown A.size s.sides.ranks k n s.sides.a v.a;
        b = side_grown A.size s.sides.ranks k m s.sides.b v.b;
      }

  after_rule :
      (x f t w : ℕ) (ps : List ℕ)
      → AllPass (checks A s (call_rule x f t w ps))
      → ValidSession A n m (with_sides s (with_rule s.sides x (record { symbol = f; target = t; weight = w; children = ps })))
  after_rule zero f t w ps ok =
      let M = s.sides.a in
      let r = rule_passed A.size s.sides.ranks n M f t w ps v.a.count ok.1.1.0 ok.1.1.1.0 ok.1.1.1.1.0 ok.1.1.1.1.1.0 ok.1.1.1.1.1.1.0 in
      record { few = v.few; ranks = v.ranks; a = side_with_rule A.size s.sides.ranks n M _ v.a r ok.1.1.1.1.1.1.1.0; b = v.b }
  after_rule (suc x) f t w ps ok =
      let M = s.sides.b in
      let r = rule_passed A.size s.sides.ranks m M f t w ps v.b.count ok.1.1.0 ok.1.1.1.0 ok.1.1.1.1.0 ok.1.1.1.1.1.0 ok.1.1.1.1.1.1.0 in
      record { few = v.few; ranks = v.ranks; a = v.a; b = side_with_rule A.size s.sides.ranks m M _ v.b r ok.1.1.1.1.1.1.1.0 }

  after_final :
      (x q w : ℕ)
      → AllPass (checks A s (call_final x q w))
      → ValidSession A n m (with_sides s (with_final s.sides x q w))
  after_final zero q w ok =
      record { few = v.few; ranks = v.ranks; a = side_with_final A.size s.sides.ranks n s.sides.a (q - 1) w v.a ok.1.1.1.0; b = v.b }
  after_final (suc x) q w ok =
      record { few = v.few; ranks = v.ranks; a = v.a; b = side_with_final A.size s.sides.ranks m s.sides.b (q - 1) w v.b ok.1.1.1.0 }

  after_valid : (t : Session) (c : Call) (g : Given c) → AllPass (checks A s c) → After A s c g t → ValidSession A n m t
  after_valid t (call_symbol k) g ok h = subst (ValidSession A n m) (sym h.1) (after_symbol k ok)
  after_valid t (call_rule x f q w ps) g ok h = subst (ValidSession A n m) (sym h) (after_rule x f q w ps ok)
  after_valid t (call_final x q w) g ok h = subst (ValidSession A n m) (sym h) (after_final x q w ok)
  after_valid t (call_weigh x es) g ok h = subst (ValidSession A n m) (sym h.1) v

  pub does_valid : (t : Session) (c : Call) (o : Outcome c) → Does A s c o t → ValidSession A n m t
  does_valid t c (Ok g) d = after_valid t c g d.0 d.1
  does_valid t c (Err e) d = subst (ValidSession A n m) (sym d.1) v

pub run_valid : (A : Algebra) (n m : ℕ) (s t : Session) (es : List Event) → ValidSession A n m s → Run A s es t → ValidSession A n m t
run_valid A n m s t [] v h = subst (ValidSession A n m) (sym h) v
run_valid A n m s t (e ∷ es) v h =
    run_valid A n m h.0 t es (does_valid A n m s v h.0 e.call e.outcome h.1) h.2

pub always :
    (A : Algebra) (n m : ℕ) (es : List Event) (s : Session) → Lawful A → Run A (begun n m) es s → ValidSession A n m s
always A n m es s laws h =
    let least : 0 < A.size = omega (arith, laws.least) in run_valid A n m (begun n m) s es (begun_valid A n m least) h

-- valid with the states that it has
pub as_valid : (A : Algebra) (n m : ℕ) (s : Session) → ValidSession A n m s → Valid A s
as_valid A n m s v =
    subst (λ (k : ℕ). ValidSession A k (states s.sides.b) s) (sym v.a.count)
    (subst (λ (k : ℕ). ValidSession A n k s) (sym v.b.count) v)

pub does_still : (A : Algebra) (s t : Session) (c : Call) (o : Outcome c) → Valid A s → Does A s c o t → Valid A t
does_still A s t c o v d =
    let n = states s.sides.a in let m = states s.sides.b in as_valid A n m t (does_valid A n m s v t c o d)

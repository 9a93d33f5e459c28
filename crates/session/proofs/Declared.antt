-- A session holds what the accepted calls declared. Assumes nothing.
use Rattle.std.proofs.Common.{◌≡◌, ℕ, zero, suc, ◌+◌, ◌-◌, ◌≤◌, List, [], ◌∷◌, ◌++◌, map, length, set, Ok, Err, sym, refl, ap, ◌∙◌, subst, append_assoc, append-nil, arith}
use mathlib.Core.Path.{fun_ext}
use Rattle.std.specs.List.{flat_map}
use Rattle.std.proofs.lemmas.List.{get_or_push, length-map, length_push}
use Rattle.std.proofs.lemmas.Bool.{eq-eqb, ne_eqb}
use Rattle.equivalence.specs.Entries.{Entry, tree_of}
use Rattle.equivalence.specs.Trees.{rank}
use Rattle.field.specs.Algebra.{Algebra, ops}
use Rattle.equivalence.specs.Automata.{Rule, Automaton, Sides, numbers, value}
use Rattle.equivalence.specs.Valuing.{last_or}
use Rattle.equivalence.proofs.Members.{length_numbers}
use Rattle.session.specs.Calls.{Call, Given, Outcome, AllPass, After, Does, StateOf, checks, call_symbol, call_rule, call_final, call_weigh}
use Rattle.session.specs.Sessions.{Session, begun, side, with_symbol, with_rule, with_final}
use Rattle.session.specs.Runs.{Event, Run, accepted, calls}
use Rattle.session.specs.Theorems.{Numbered}
use Rattle.session.specs.Declarations.{symbol_given, rule_given, final_given, automaton_given, sides_given}
use Rattle.session.proofs.Given.{joined_push, joined_none, last_push, map_same_value, map_replaced}
use Rattle.session.proofs.Runs.{made}

sides_path : {rs rs' : List ℕ} {M M' N N' : Automaton ℕ} → rs ≡ rs' → M ≡ M' → N ≡ N'
    → ◌≡◌ {A = Sides ℕ} (record { ranks = rs; a = M; b = N }) (record { ranks = rs'; a = M'; b = N' })
sides_path p q r i = record { ranks = p i; a = q i; b = r i }

automaton_path : {fs fs' : List ℕ} {rs rs' : List (Rule ℕ)} → fs ≡ fs' → rs ≡ rs'
    → ◌≡◌ {A = Automaton ℕ} (record { finals = fs; rules = rs }) (record { finals = fs'; rules = rs' })
automaton_path p q i = record { finals = p i; rules = q i }

-- the final weights of a side to whose states a call gives none
finals_kept :
    (n y : ℕ) (cs : List Call) (c : Call)
    → ((p : ℕ) → final_given y p c ≡ [])
    → (automaton_given n y (cs ++ (c ∷ []))).finals ≡ (automaton_given n y cs).finals
finals_kept n y cs c none =
    ap (λ (f : ℕ → ℕ). map f (numbers n)) (fun_ext (λ p. ap (last_or 0) (joined_none (final_given y p) cs c (none p))))

automaton_kept :
    (n y : ℕ) (cs : List Call) (c : Call)
    → ((p : ℕ) → final_given y p c ≡ [])
    → rule_given y c ≡ []
    → automaton_given n y (cs ++ (c ∷ [])) ≡ automaton_given n y cs
automaton_kept n y cs c none no_rule =
    automaton_path (finals_kept n y cs c none) (joined_none (rule_given y) cs c no_rule)

-- the automaton of the side to which a call gives a rule
automaton_with_rule :
    (n y : ℕ) (cs : List Call) (c : Call) (r : Rule ℕ)
    → ((p : ℕ) → final_given y p c ≡ [])
    → rule_given y c ≡ r ∷ []
    → automaton_given n y (cs ++ (c ∷ []))
    ≡ record { finals = (automaton_given n y cs).finals; rules = (automaton_given n y cs).rules ++ (r ∷ []) }
automaton_with_rule n y cs c r none this =
    automaton_path (finals_kept n y cs c none)
    (joined_push (rule_given y) cs c ∙ ap (λ rs. flat_map (rule_given y) cs ++ rs) this)

final_here : (y q w : ℕ) → final_given y q (call_final y q w) ≡ w ∷ []
final_here y q w = rw (eq-eqb y y refl, eq-eqb q q refl)

final_elsewhere : (y q w p : ℕ) → (p ≡ q → ⊥) → final_given y p (call_final y q w) ≡ []
final_elsewhere y q w p other = rw (eq-eqb y y refl, ne_eqb q p (λ e. other (sym e)))

-- the automaton of the side a state of which a call gives a final weight
automaton_with_final :
    (n y q w : ℕ) (cs : List Call)
    → 1 ≤ q
    → q ≤ n
    → automaton_given n y (cs ++ (call_final y q w ∷ []))
    ≡ record { finals = set (automaton_given n y cs).finals (q - 1) w; rules = (automaton_given n y cs).rules }
automaton_with_final n y q w cs least most =
    let c = call_final y q w in
    automaton_path
    (map_replaced (λ p. last_or 0 (flat_map (final_given y p) cs)) (λ p. last_or 0 (flat_map (final_given y p) (cs ++ (c ∷ [])))) n q w least most
    (ap (last_or 0) (joined_push (final_given y q) cs c ∙ ap (λ ws. flat_map (final_given y q) cs ++ ws) (final_here y q w)) ∙ last_push (flat_map (final_given y q) cs) w 0)
    (λ p other. ap (last_or 0) (joined_none (final_given y p) cs c (final_elsewhere y q w p other))))
    (joined_none (rule_given y) cs c refl)

module _ (n m : ℕ) (cs : List Call) where
  after_symbol : (k : ℕ) → sides_given n m (cs ++ (call_symbol k ∷ [])) ≡ with_symbol (sides_given n m cs) k
  after_symbol k =
      let c = call_symbol k in
      sides_path (joined_push symbol_given cs c) (automaton_kept n 0 cs c (λ p. refl) refl) (automaton_kept m 1 cs c (λ p. refl) refl)

  after_rule :
      (x f t w : ℕ) (ps : List ℕ)
      → x ≤ 1
      → sides_given n m (cs ++ (call_rule x f t w ps ∷ []))
      ≡ with_rule (sides_given n m cs) x (record { symbol = f; target = t; weight = w; children = ps })
  after_rule zero f t w ps h =
      let c = call_rule zero f t w ps in
      sides_path (joined_none symbol_given cs c refl) (automaton_with_rule n 0 cs c _ (λ p. refl) refl) (automaton_kept m 1 cs c (λ p. refl) refl)
  after_rule (suc zero) f t w ps h =
      let c = call_rule (suc zero) f t w ps in
      sides_path (joined_none symbol_given cs c refl) (automaton_kept n 0 cs c (λ p. refl) refl) (automaton_with_rule m 1 cs c _ (λ p. refl) refl)
  after_rule (suc (suc x)) f t w ps h = absurd (omega arith)

  after_final :
      (x q w : ℕ)
      → x ≤ 1
      → StateOf (side (sides_given n m cs) x) q
      → sides_given n m (cs ++ (call_final x q w ∷ [])) ≡ with_final (sides_given n m cs) x q w
  after_final zero q w h is =
      let c = call_final zero q w in
      sides_path (joined_none symbol_given cs c refl)
      (automaton_with_final n 0 q w cs is.0 (omega (arith, length-map (numbers n) (λ p. last_or 0 (flat_map (final_given 0 p) cs)), length_numbers n)))
      (automaton_kept m 1 cs c (λ p. refl) refl)
  after_final (suc zero) q w h is =
      let c = call_final (suc zero) q w in
      sides_path (joined_none symbol_given cs c refl)
      (automaton_kept n 0 cs c (λ p. refl) refl)
      (automaton_with_final m 1 q w cs is.0 (omega (arith, length-map (numbers m) (λ p. last_or 0 (flat_map (final_given 1 p) cs)), length_numbers m)))
  after_final (suc (suc x)) q w h is = absurd (omega arith)

  after_weigh : (x : ℕ) (es : List Entry) → sides_given n m (cs ++ (call_weigh x es ∷ [])) ≡ sides_given n m cs
  after_weigh x es =
      let c = call_weigh x es in
      sides_path (joined_none symbol_given cs c refl) (automaton_kept n 0 cs c (λ p. refl) refl) (automaton_kept m 1 cs c (λ p. refl) refl)

-- an accepted call, from a session that holds what the calls before declared
after_given :
    (A : Algebra) (n m : ℕ) (cs : List Call) (s t : Session) (c : Call) (v : Given c)
    → s.sides ≡ sides_given n m cs
    → AllPass (checks A s c)
    → After A s c v t
    → t.sides ≡ sides_given n m (cs ++ (c ∷ []))
after_given A n m cs s t (call_symbol k) v e ok h =
    ap (λ u. u.sides) h.1 ∙ (ap (λ S. with_symbol S k) e ∙ sym (after_symbol n m cs k))
after_given A n m cs s t (call_rule x f q w ps) v e ok h =
    ap (λ u. u.sides) h ∙ (ap (λ S. with_rule S x (record { symbol = f; target = q; weight = w; children = ps })) e ∙ sym (after_rule n m cs x f q w ps ok.1.0))
after_given A n m cs s t (call_final x q w) v e ok h =
    ap (λ u. u.sides) h
    ∙ (ap (λ S. with_final S x q w) e ∙ sym (after_final n m cs x q w ok.1.0 (subst (λ S. StateOf (side S x) q) e ok.1.1.0)))
after_given A n m cs s t (call_weigh x es) v e ok h = ap (λ u. u.sides) h.1 ∙ (e ∙ sym (after_weigh n m cs x es))

step_given :
    (A : Algebra) (n m : ℕ) (cs : List Call) (s t : Session) (c : Call) (o : Outcome c)
    → s.sides ≡ sides_given n m cs
    → Does A s c o t
    → t.sides ≡ sides_given n m (cs ++ calls (accepted (made c o ∷ [])))
step_given A n m cs s t c (Ok v) e d = after_given A n m cs s t c v e d.0 d.1
step_given A n m cs s t c (Err r) e d = ap (λ u. u.sides) d.1 ∙ (e ∙ ap (sides_given n m) (sym (append-nil cs)))

first_apart : (c : Call) (o : Outcome c) (es : List Event) → calls (accepted (made c o ∷ [])) ++ calls (accepted es) ≡ calls (accepted (made c o ∷ es))
first_apart c (Ok v) es = refl
first_apart c (Err e) es = refl

run_given :
    (A : Algebra) (n m : ℕ) (cs : List Call) (s t : Session) (es : List Event)
    → s.sides ≡ sides_given n m cs
    → Run A s es t
    → t.sides ≡ sides_given n m (cs ++ calls (accepted es))
run_given A n m cs s t [] e h = ap (λ u. u.sides) h ∙ (e ∙ ap (sides_given n m) (sym (append-nil cs)))
run_given A n m cs s t (f ∷ es) e h =
    let first = calls (accepted (f ∷ [])) in
    run_given A n m (cs ++ first) h.0 t es (step_given A n m cs s h.0 f.call f.outcome e h.1) h.2
    ∙ ap (sides_given n m) (append_assoc cs first (calls (accepted es)) ∙ ap (λ ds. cs ++ ds) (first_apart f.call f.outcome es))

pub begun_given : (n m : ℕ) → (begun n m).sides ≡ sides_given n m []
begun_given n m = sides_path refl (automaton_path (map_same_value n 0) refl) (automaton_path (map_same_value m 0) refl)

pub holds_declared :
    (A : Algebra) (n m : ℕ) (es : List Event) (s : Session)
    → Run A (begun n m) es s
    → s.sides ≡ sides_given n m (calls (accepted es))
holds_declared A n m es s h = run_given A n m [] (begun n m) s es (begun_given n m) h

pub weighs_declared :
    (A : Algebra) (n m : ℕ) (es : List Event) (s t : Session) (x v : ℕ) (entries : List Entry)
    → Run A (begun n m) es s
    → Does A s (call_weigh x entries) (Ok v) t
    → v ≡ value (ops A) (side (sides_given n m (calls (accepted es))) x) (tree_of entries)
weighs_declared A n m es s t x v entries h d =
    d.1.0 ∙ ap (λ S. value (ops A) (side S x) (tree_of entries)) (holds_declared A n m es s h)

pub numbered :
    (A : Algebra) (s t : Session) (k v : ℕ)
    → Does A s (call_symbol k) (Ok v) t
    → Numbered s.sides.ranks t.sides.ranks k v
numbered A s t k v d =
    let ranks = s.sides.ranks in
    let is = d.1.0 in
    let grown : t.sides.ranks ≡ ranks ++ (k ∷ []) = ap (λ u. u.sides.ranks) d.1.1 in
    let place : length ranks ≡ v - 1 = omega (arith, is) in
    let many : length t.sides.ranks ≡ length ranks + 1 = ap length grown ∙ length_push ranks k in
    record {
      new = λ h. omega (arith, is, h.1);
      declared = (omega (arith, is), omega (arith, is, many));
      ranked = ap (λ rs. rank rs v) grown ∙ get_or_push ranks k 0 (v - 1) place;
    }

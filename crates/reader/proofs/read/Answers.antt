use Rattle.std.proofs.Common.{◌≡◌, ℕ, true, false, Result, Ok, Err, is_ok, MatchResult, ◌+◌, ◌-◌, ◌<◌, ◌≤◌, ◌==◌, ◌∙◌, List, [], ◌∷◌, length, sym, refl, ap, rules, subst, arith, length-append}
use Rattle.std.proofs.lemmas.Bool.{false≢true}
use Rattle.std.proofs.lemmas.Result.{MatchResult-weaker, err_from_is_err_and}
use Rattle.reader.proofs.read.Goals.{then-not-is_empty-via-then-not-is_empty, then-not-is_empty-via-else-not-is_empty+then-not-is_end}
use Rattle.words.specs.Words.{Cut}
use Rattle.format.specs.Reading.{Draft, Faulty}
use Rattle.format.proofs.Loop.{ReadSoFar, so_far_fault, so_far_more, so_far_stops, so_far_done}
use Rattle.refusals.specs.Numbers.{number}
use Rattle.refusals.specs.declared.Refusal.{Refusal}
use Rattle.reader.specs.declared.fault.Fault.{Fault}
use borrow.Author.Tests.{tests}
use Rattle.reader.specs.Reads.{meaning}
use Rattle.reader.proofs.read.Goals as goal

-- a line takes at least its line feed
shorter : (rest bytes more : List ℕ) → Cut 10 rest bytes more → length more < length rest
shorter rest bytes more k = rw k.0 (simp length-append (omega arith))

-- what follows the n-th line is the line n + 1
fault_at : (text : List ℕ) (k line : ℕ) → 1 ≤ line → Faulty text k (line - 1 + 1) → Faulty text k line
fault_at text k line h = subst (Faulty text k) (omega arith)

empty : (xs : List ℕ) → true ≡ (length xs == 0) → xs ≡ []
empty [] h = refl
empty (x ∷ xs) h = search (rules, tests)

pub loop-bytes-smaller : goal.loop-bytes-smaller
loop-bytes-smaller c = shorter _ _ _ c.in-Some.ensures

ok_case : {T E : Type 0} (r : Result T E) (P : T → Type 0) (Q : E → Type 0) → is_ok r ≡ true → MatchResult r P Q → (x : T) × P x
ok_case (Ok x) P Q is h = (x, h)
ok_case (Err e) P Q is h = absurd (false≢true is)

-- the fault that is made of a refusal
err_case : {U : Type 0} (r : Result U Refusal) (f : Fault) (line : ℕ) (F : ℕ → ℕ → Type 0) (P A : U → Type 0) (B : Refusal → Type 0) → is_ok r ≡ false → MatchResult r P (λ e. F (number e) line) → MatchResult r A B → ((e : Refusal) → B e → f ≡ record { refusal = e; line = line }) → F (number f.refusal) f.line
err_case (Ok x) f line F P A B is h k made = absurd (false≢true (sym is))
err_case (Err e) f line F P A B is h k made = rw (made e k) h

pub loop-bytes-preserved : goal.loop-bytes-preserved
loop-bytes-preserved c =
    let k = c.in-Some.ensures in
    let t = (ok_case c.line.result _ _ (sym c.in_ok-map_err.ensures.variant) c.line.ensures).1 in
    let text = c.args.text.now in
    let rest = c.loop-bytes.rest.now in
    let bytes = c.in-Some.bytes.now in
    let more = c.in-Some.more.now in
    let d = meaning c.loop-bytes.reader in
    let line = c.loop-bytes.line in
    let h : 1 ≤ line = c.loop-bytes.invariant.1 in
    let fewer = shorter rest bytes more k in (
      subst (λ (n : ℕ). ReadSoFar text more (meaning c.line.new.self) n) (omega arith)
          (subst (λ (e : Draft). ReadSoFar text more e (line - 1 + 1)) (sym t.5)
          (so_far_more text rest bytes more d (line - 1) t.0 c.loop-bytes.invariant.0 k.0 t.1 t.2 t.4 t.3)),
      omega arith,
      omega arith,
    )

pub returns-in_err-map_err : goal.returns-in_err-map_err
returns-in_err-map_err c =
    let text = c.args.text.now in
    let line = c.loop-bytes.line in
    let k = c.in-Some.ensures in
    let h : 1 ≤ line = c.loop-bytes.invariant.1 in
    let faulty = MatchResult-weaker c.line.result c.line.ensures (λ _ x. x) (λ _ x. fault_at text _ line h (so_far_fault text c.loop-bytes.rest.now c.in-Some.bytes.now c.in-Some.more.now (meaning c.loop-bytes.reader) (line - 1) _ c.if-text-gt-LONGEST.false c.loop-bytes.invariant.0 k.0 k.1 x)) in
    let e = err_from_is_err_and c.from_residual.result c.from_residual.ensures.1 in
    rw (e.1, e.2) (err_case c.line.result _ line (Faulty text) _ _ _ (sym c.in_err-map_err.ensures.variant) faulty c.in_err-map_err.ensures.cases (λ e q. search rules))

pub returns-then-not-is_empty : goal.returns-then-not-is_empty
returns-then-not-is_empty c =
    let text = c.args.text.now in
    let rest = c.loop-bytes.rest.now in
    let d = meaning c.loop-bytes.reader in
    let line = c.loop-bytes.line in
    let h : 1 ≤ line = c.loop-bytes.invariant.1 in
    fault_at text 102 line h
    (so_far_stops text rest d (line - 1) c.if-text-gt-LONGEST.false c.loop-bytes.invariant.0 c.in_default.ensures
    (elim c.then-not-is_empty.branch [
      | then-not-is_empty-via-then-not-is_empty w ↦ λ e _. false≢true (w.if-not-is_empty.ensures ∙ ap (λ xs. length xs == 0) e)
      | then-not-is_empty-via-else-not-is_empty+then-not-is_end w ↦ λ _ k. false≢true ((w.if-not-is_end.ensures c.loop-bytes.reader.draft).1 k)
    ]))

pub returns : goal.returns
returns c =
    so_far_done c.args.text.now c.loop-bytes.rest.now (meaning c.loop-bytes.reader) (c.loop-bytes.line - 1)
    c.if-text-gt-LONGEST.false c.loop-bytes.invariant.0 (empty _ c.if-not-is_empty.ensures) ((c.if-not-is_end.ensures c.loop-bytes.reader.draft).0 refl)

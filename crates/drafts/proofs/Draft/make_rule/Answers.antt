use Rattle.std.proofs.Common.{◌≡◌, ℕ, List, Some, sym, ap, ◌∙◌, inl, inr, refl, rules, arith}
use lib.ListN.{length-map}
use Rattle.std.proofs.lemmas.Result.{err_from_is_err_and}
use Rattle.format.specs.Reading.{Place}
use Rattle.format.specs.Records.{symbol_names}
use Rattle.tables.specs.Tables.{symbols_of}
use Rattle.tables.proofs.Names.{number_of_le}
use Rattle.drafts.specs.Drafts.{ChildrenAre}
use Rattle.drafts.proofs.Rules.{Found, number_at, rank_at, count_right, children_declared, declared_children}
use Rattle.drafts.proofs.Towers.{algebra_is_tower}
use Rattle.drafts.proofs.Draft.make_rule.Goals as goal
use Rattle.drafts.proofs.Draft.make_rule.Goals.{After-declared}

pub rank-requires-clause-high : goal.rank-requires-clause-high
rank-requires-clause-high c =
    let ss = symbols_of c.args.self.now.symbols in
    let s = rw c.in_ok-symbol.ensures.ok_part at c.symbol_number.ensures in
    let l = number_of_le (symbol_names ss) c.args.symbol.now in
    let e = length-map ss (λ s. s.name) in
    omega arith

-- what is known once the children were looked at
found : (c : After-declared) (cs : List (List ℕ)) → ChildrenAre c.args.self.now c.args.side cs c.args.children → (p : Place) → Found c.args.self.now c.args.side p c.args.symbol.now c.args.target.now cs c.args.children c.in_ok-target.target
found c cs k p =
    let d = c.args.self.now in
    let x = c.args.side in
    let s = rw c.in_ok-symbol.ensures.ok_part at c.symbol_number.ensures in
    let is_state : c.state_number.result ≡ Some c.in_ok-target.target = c.in_ok-target.ensures.ok_part in
    let t = rw is_state at c.state_number.ensures in
    let target = number_at d x p c.args.target.now c.part-part.result.now c.in_ok-target.target c.part-part.ensures t.1 in
    let r = rank_at d c.args.symbol.now c.in_ok-symbol.symbol c.rank.result s.1 c.rank.ensures.is in
    record {
      symbol = s.0;
      count = count_right d x p cs c.args.children k (omega arith) ∙ sym c.count.ensures.is ∙ c.if-count-rank.false ∙ r;
      target = target;
      is_declared = omega arith;
      children = children_declared d x p cs c.args.children k (omega arith);
      declared = declared_children d x p cs c.args.children k (omega arith);
    }

pub returns-in_err-children : goal.returns-in_err-children
returns-in_err-children c cs k p =
    let f = found (goal.at.returns-in_err-children c).After-declared cs k p in
    let none = rw c.in_err-children.ensures.ok_part at c.declared.ensures in
    let e = err_from_is_err_and c.from_residual-in_err-children.result c.from_residual-in_err-children.ensures.1 in
    rw (e.1, e.2) (inr (f.symbol, inr (f.count, inr (f.is_declared, inl (λ all. none _ (f.declared all), search rules)))))

pub returns-then-weight-size : goal.returns-then-weight-size
returns-then-weight-size c cs k p =
    let f = found (goal.at.returns-then-weight-size c).After-declared cs k p in
    let q = ap (λ F. F.size) (algebra_is_tower c.args.self.now.field) in
    let kept = rw c.in_ok-children.ensures.ok_part at c.declared.ensures in
    let g = f.children _ kept in
    inr (f.symbol, inr (f.count, inr (f.is_declared, inr (g.0, inl (λ e. omega arith, refl)))))

pub returns : goal.returns
returns c cs k p =
    let f = found (goal.at.returns c).After-declared cs k p in
    let q = ap (λ F. F.size) (algebra_is_tower c.args.self.now.field) in
    let kept = rw c.in_ok-children.ensures.ok_part at c.declared.ensures in
    let g = f.children _ kept in
    let s = rw c.in_ok-symbol.ensures.ok_part at c.symbol_number.ensures in (
      (f.symbol, (f.count, (f.is_declared, (g.0, (omega arith, tt))))),
      λ j. record { symbol = s.1 j; target = f.target j; weight = c.args.weight; children = g.1 j },
    )

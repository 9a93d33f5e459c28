-- The checks of a rule line, from what the look-ups answer.
use Rattle.std.proofs.Common.{◌≡◌, ℕ, zero, suc, ◌-◌, ◌≤◌, min, List, [], ◌∷◌, map, length, get_or, Some, is_some, sym, refl, ap, ap₂, ◌∙◌, arith, length-take}
use lib.ListN.{length-map}
use Rattle.std.specs.List.{AllByRecursion}
use Rattle.std.proofs.lemmas.Bool.{false≢true}
use Rattle.std.proofs.lemmas.List.{take_all}
use Rattle.format.specs.Records.{state_names, symbol_names}
use Rattle.format.specs.Reading.{Place, Declared, number_of, draft_part}
use Rattle.side.specs.declared.Side.{Side}
use Rattle.side.specs.declared.Side.TheVariants.{A, B}
use Rattle.lines.specs.Recognized.{side_of}
use Rattle.tables.specs.declared.children.Children.{Children}
use Rattle.tables.specs.Tables.{children_of, numbered, states_of, symbols_of}
use Rattle.drafts.specs.declared.Draft.{Draft}
use Rattle.drafts.specs.declared.Part.{Part}
use Rattle.drafts.specs.Drafts.{ChildrenAre, draft_of, side_part}

-- the names of the states of a side
abbrev names : Draft → Side → Place → List (List ℕ)
names d x p = state_names (draft_part (draft_of d p) (side_of x)).states

same_names : (d : Draft) (x : Side) (p : Place) → state_names (states_of (side_part d x).states) ≡ names d x p
same_names d A p = refl
same_names d B p = refl

pub number_at : (d : Draft) (x : Side) (p : Place) (t : List ℕ) (part : Part) (n : ℕ) → part ≡ side_part d x → n ≡ number_of (state_names (states_of part.states)) t → n ≡ number_of (names d x p) t
number_at d x p t part n same e =
    e ∙ ap (λ q. number_of (state_names (states_of q.states)) t) same ∙ ap (λ ns. number_of ns t) (same_names d x p)

-- the rank of the symbol of a line
abbrev pub rank_of : Draft → List ℕ → ℕ
rank_of d s =
    let ss = symbols_of d.symbols in
    get_or (map (λ y. y.rank) ss) (number_of (symbol_names ss) s - 1) 0

pub rank_at : (d : Draft) (s : List ℕ) (m r : ℕ) → m ≡ number_of (symbol_names (symbols_of d.symbols)) s → r ≡ get_or (map (λ y. y.rank) (symbols_of d.symbols)) (m - 1) 0 → r ≡ rank_of d s
rank_at d s m r e f = f ∙ ap (λ n. get_or (map (λ y. y.rank) (symbols_of d.symbols)) (n - 1) 0) e

-- numbers that are all there
module _ {X : Type 0} (f : X → ℕ) where
  there : (m n : ℕ) → numbered m ≡ Some n → (1 ≤ m) × (n ≡ m)
  there zero n e = absurd (false≢true (ap is_some e))
  there (suc m) n e = (omega arith, cc)

  pub all_there : (xs : List X) (ns : List ℕ) → map (λ x. numbered (f x)) xs ≡ map Some ns → AllByRecursion (λ x. 1 ≤ f x) xs × (ns ≡ map f xs)
  all_there [] [] e = (tt, refl)
  all_there [] (n ∷ ns) e = absurd (omega (arith, ap length e))
  all_there (x ∷ xs) [] e = absurd (omega (arith, ap length e))
  all_there (x ∷ xs) (n ∷ ns) e =
      let head : numbered (f x) ≡ Some n = cc in
      let tail : map (λ y. numbered (f y)) xs ≡ map Some ns = cc in
      let h = there (f x) n head in
      let t = all_there xs ns tail in
      ((h.0, t.0), ap₂ (λ m ms. m ∷ ms) h.1 t.1)

  is_numbered : (m : ℕ) → 1 ≤ m → numbered m ≡ Some m
  is_numbered zero h = absurd (omega arith)
  is_numbered (suc m) h = refl

  pub there_all : (xs : List X) → AllByRecursion (λ x. 1 ≤ f x) xs → map (λ x. numbered (f x)) xs ≡ map Some (map f xs)
  there_all [] h = refl
  there_all (x ∷ xs) h = ap₂ (λ m ms. m ∷ ms) (is_numbered (f x) h.0) (there_all xs h.1)

module _ (d : Draft) (x : Side) (p : Place) (cs : List (List ℕ)) (c : Children) (k : ChildrenAre d x cs c) where
  count_min : length (children_of c) ≡ min 4 (length cs)
  count_min =
      ap length k ∙ length-take 4 (map (λ s. numbered (number_of (state_names (states_of (side_part d x).states)) s)) cs)
      ∙ ap (min 4) (length-map cs (λ s. numbered (number_of (state_names (states_of (side_part d x).states)) s)))

  pub count_wrong : (r : ℕ) → r ≤ 3 → (length (children_of c) ≡ r → ⊥) → length cs ≡ r → ⊥
  count_wrong r small other e = other (omega (arith, count_min))

  module _ (few : length (children_of c) ≤ 3) where
    pub count_right : length cs ≡ length (children_of c)
    count_right = omega (arith, count_min)

    whole : children_of c ≡ map (λ s. numbered (number_of (names d x p) s)) cs
    whole =
        let l = length-map cs (λ s. numbered (number_of (state_names (states_of (side_part d x).states)) s)) in
        k ∙ take_all 4 (map (λ s. numbered (number_of (state_names (states_of (side_part d x).states)) s)) cs) (omega (arith, count_min))
        ∙ ap (λ ns. map (λ s. numbered (number_of ns s)) cs) (same_names d x p)

    pub children_declared : (ns : List ℕ) → children_of c ≡ map Some ns → AllByRecursion (Declared (names d x p)) cs × (ns ≡ map (number_of (names d x p)) cs)
    children_declared ns e = all_there (number_of (names d x p)) cs ns (sym whole ∙ e)

    pub declared_children : AllByRecursion (Declared (names d x p)) cs → children_of c ≡ map Some (map (number_of (names d x p)) cs)
    declared_children all = whole ∙ there_all (number_of (names d x p)) cs all

-- what is known of a line with a target whose number is n, once its symbol is declared and its children are as many as the rank
pub record Found (d : Draft) (x : Side) (p : Place) (s t : List ℕ) (cs : List (List ℕ)) (c : Children) (n : ℕ) : Type 0 where
  pub symbol : Declared (symbol_names (symbols_of d.symbols)) s
  pub count : length cs ≡ rank_of d s
  pub target : n ≡ number_of (names d x p) t
  pub is_declared : Declared (names d x p) t
  pub children : (ns : List ℕ) → children_of c ≡ map Some ns → AllByRecursion (Declared (names d x p)) cs × (ns ≡ map (number_of (names d x p)) cs)
  pub declared : AllByRecursion (Declared (names d x p)) cs → children_of c ≡ map Some (map (number_of (names d x p)) cs)

-- The children of a rule: names parted by spaces.
use Rattle.std.proofs.Common.{◌≡◌, ℕ, ◌<◌, Bool, true, false, List, [], ◌∷◌, length, decimal, Decides, sym, refl, ap, ◌∙◌, subst, arith, length-append}
use Rattle.std.specs.Prelude.{◌==◌, MatchBool}
use Rattle.std.specs.List.{slice_split, onto_first, AllWithin, HoldsAt}
use Rattle.std.proofs.ByRecursion.{All-from_get_or, All-get_or}
use Rattle.std.proofs.lemmas.Bool.{both_ways}
use Rattle.words.specs.Words.{is_name, spaced, Lacks, Cut, Number}
use Rattle.words.proofs.Numbers.{decimal_field}
use Rattle.lines.specs.Recognized.{onto, parted}
use Rattle.lines.specs.Fields.{Ends, Names}
use Rattle.lines.proofs.Pieces.{pieces, parted_cut, pieces_one, pieces_cut, pieces_some, pieces_spaced, spaced_pieces, parted_spaced, fields_lack, names_fields}

onto_is : (x : ℕ) (ps : List (List ℕ)) → onto x ps ≡ onto_first x ps
onto_is x [] = refl
onto_is x (p ∷ ps) = refl

-- the pieces are what `split` gives
pub pieces_split : (xs : List ℕ) → pieces xs ≡ slice_split (λ b. b == 32) xs
pieces_split [] = refl
pieces_split (x ∷ xs) = rw (pieces_split xs, onto_is x (slice_split (λ b. b == 32) xs))

-- whether each of the pieces is a name tells whether the text is names
pub names_tell : (xs : List ℕ) (ps : List (List ℕ)) → pieces xs ≡ ps → (r : Bool) → MatchBool r (AllWithin (λ p. is_name p ≡ true) ps 0 (length ps)) ((k : ℕ) × (k < length ps) × HoldsAt (λ p. is_name p ≡ false) ps k) → Decides r (Names xs)
names_tell xs ps e true h = (
  λ _. (ps, subst (λ qs. 0 < length qs) e (pieces_some xs), All-from_get_or _ ps [] (λ k less. h k [] (omega arith) less), ap spaced (sym e) ∙ spaced_pieces xs),
  λ _. refl,
)
names_tell xs ps e false (k, less, out) = (
  λ h. absurd (both_ways false refl h),
  λ (cs, some, named, i).
      let p : ps ≡ cs = sym e ∙ ap pieces (sym i) ∙ pieces_spaced cs some (fields_lack cs (names_fields cs named)) in
      absurd (both_ways _ (out []) (All-get_or (λ c. is_name c ≡ true) ps k [] less (rw p named))),
)

-- a rule's weight before children, and what the end of its line says of the parts
pub ends_with : (rest last children : List ℕ) (w : ℕ) → Cut 32 rest last children → Names children → Number last w → Ends rest w (parted children)
ends_with rest last children w (e, _) ([], some, all, i) (fits, n) = absurd (omega arith)
ends_with rest last children w (e, _) (c ∷ cs, some, all, i) (fits, n) =
    let p : parted children ≡ c ∷ cs = ap parted (sym i) ∙ parted_spaced (c ∷ cs) (names_fields (c ∷ cs) all) in
    (fits, rw p all, rw p (cc))

ends_pieces : (rest : List ℕ) (w : ℕ) (cs : List (List ℕ)) → Ends rest w cs → pieces rest ≡ decimal w ∷ cs
ends_pieces rest w cs (fits, all, e) =
    ap pieces (sym e)
    ∙ pieces_spaced (decimal w ∷ cs) (omega arith) (fields_lack (decimal w ∷ cs) (decimal_field w fits, names_fields cs all))

pub alone_ends : (rest : List ℕ) → Lacks 32 rest → (w : ℕ) (cs : List (List ℕ)) → Ends rest w cs → Number rest w
alone_ends rest h w cs k =
    let p = ends_pieces rest w cs k in
    let q = pieces_one rest h in
    (k.0, cc)

pub with_ends : (rest last children : List ℕ) → Cut 32 rest last children → (w : ℕ) (cs : List (List ℕ)) → Ends rest w cs → Number last w × Names children
with_ends rest last children (e, h) w cs k =
    let p = ends_pieces rest w cs k in
    let q = pieces_cut last children h in
    let r : pieces children ≡ cs = cc in
    ((k.0, cc), (cs, subst (λ ps. 0 < length ps) r (pieces_some children), k.1, ap spaced (sym r) ∙ spaced_pieces children))

-- the first name, before a space
pub first_before : (xs front rest : List ℕ) → Cut 32 xs front rest → (parted xs ≡ front ∷ parted rest) × (length rest < length xs)
first_before xs front rest (e, h) =
    (ap parted e ∙ parted_cut front rest h, omega (arith, simp length-append at (ap length e)))

-- The order of tries: how many there are, which rows they take, and that every row is taken. Assumes nothing.
use Rattle.std.proofs.Common.{◌≡◌, ℕ, zero, suc, ◌+◌, ◌-◌, ◌^◌, ◌<◌, ◌≤◌, Bool, true, false, not, ◌||◌, eqb, List, [], ◌∷◌, map, length, get_or, take, sum_by, filter, sym, refl, ap, ◌∙◌, ⊎_elim, le_trans, le_of_suc-le-suc, zero-mul, sub-one, arith, length-append, take-suc}
use mathlib.Core.Path.{fun_ext}
use native.Mathlib.Nat.{pow-zero, pow-succ', pow-le-pow_left}
use lib.ListN.{length-map}
use lib.Seq.{take-length}
use Rattle.std.specs.List.{ContainsAt as Has, AllByRecursion}
use Rattle.std.proofs.lemmas.List.{append-nil, map_push, flat_map_more, get_or_append_left, get_or-append_right}
use Rattle.std.proofs.ByRecursion.{All-map, All-weaker, All-get_or, all_kept_by, kept_by_passes, has_append_left, has_append_right, has_push}
use Rattle.std.proofs.lemmas.List.Filters.{length-filter_both}
use Rattle.std.proofs.lemmas.List.Folds.{fold-map}
use Rattle.std.proofs.lemmas.List.Sums.{sum_by-cons}
use Rattle.std.proofs.lemmas.Bool.{cases_Bool, cases_lt, eqb-false, eq-eqb, ne_eqb, or_parts, false≢true}
use Rattle.equivalence.specs.Automata.{numbers}
use Rattle.equivalence.specs.Trees.{rank, Declared}
use Rattle.equivalence.specs.Tries.{Try, rows, occurs, rows_in_turn, tries_of, turn, turns, all_tries}
use Rattle.equivalence.proofs.Members.{all_both, all_joined, all_numbers, has_map, has_joined, has_kept_by, has_numbers}
use Rattle.equivalence.proofs.Members.{kept_by_joined, kept_by_map, kept_by_none, joined_same}
use Rattle.equivalence.proofs.Members.{length_joined, length_numbers, sumBy_constant, sumBy_sums}

-- the numbers of a row lie from 1 to m
abbrev pub Within : ℕ → List ℕ → Type 0
Within m row = AllByRecursion (λ c. (1 ≤ c) × (c ≤ m)) row

-- the rows with c in front
abbrev headed : List (List ℕ) → ℕ → List (List ℕ)
headed rs c = map (λ row. c ∷ row) rs

abbrev lacks : ℕ → List ℕ → Bool
lacks i row = not (occurs i row)

-- the tries of a symbol in turn i
abbrev tries_in : List ℕ → ℕ → ℕ → List Try
tries_in ranks i s = tries_of s (rows_in_turn i (rank ranks s))

length_rows : (k i : ℕ) → length (rows k i) ≡ i ^ k
length_rows zero i = sym (pow-zero i)
length_rows (suc k) i =
    length_joined (headed (rows k i)) (λ _. i ^ k) (λ c. length-map _ _ ∙ length_rows k i) (numbers i)
    ∙ sumBy_constant (i ^ k) (numbers i)
    ∙ rw (length_numbers i, pow-succ' i k)

-- with c in front, where b says whether c is i
headed_lacks :
    (i c : ℕ) (b : Bool) (rs : List (List ℕ))
    → eqb c i ≡ b
    → filter (lacks i) (headed rs c) ≡ headed (filter (λ row. not (b || occurs i row)) rs) c
headed_lacks i c b rs e =
    kept_by_map (λ row. c ∷ row) (lacks i) rs ∙ ap (λ t. headed (filter (λ row. not (t || occurs i row)) rs) c) e

headed_lacks_none : (i : ℕ) (rs : List (List ℕ)) → filter (lacks i) (headed rs i) ≡ []
headed_lacks_none i rs = headed_lacks i i true rs (eq-eqb i i refl) ∙ ap (λ l. headed l i) (kept_by_none rs)

-- the rows in which the greatest number does not occur are those of the smaller numbers
rows_lack : (k i : ℕ) → filter (lacks (suc i)) (rows k (suc i)) ≡ rows k i
rows_lack zero i = refl
rows_lack (suc k) i =
    let rs : List (List ℕ) = rows k (suc i) in
    let lacking : ℕ → List (List ℕ) = λ c. filter (lacks (suc i)) (headed rs c) in
    let other : (c : ℕ) → (1 ≤ c) × (c ≤ i) → eqb c (suc i) ≡ false = λ c h. ne_eqb c (suc i) (λ e. omega arith) in
    kept_by_joined (headed rs) (lacks (suc i)) (numbers (suc i))
    ∙ sym (flat_map_more lacking [] (numbers i) (suc i))
    ∙ rw (headed_lacks_none (suc i) rs, append-nil)
    (joined_same lacking (headed (rows k i)) (numbers i)
    (all_numbers _ i (λ c h. headed_lacks (suc i) c false rs (other c h) ∙ ap (λ l. headed l c) (rows_lack k i))))

first_turn : (k : ℕ) → length (rows_in_turn 0 k) ≡ 0 ^ k
first_turn zero = refl
first_turn (suc k) = sym (pow-succ' 0 k ∙ zero-mul (0 ^ k))

later_turn : (i k : ℕ) → length (rows_in_turn (suc i) k) + i ^ k ≡ suc i ^ k
later_turn i zero = rw (pow-zero i, pow-zero (suc i))
later_turn i (suc k) =
    let both = length-filter_both (occurs (suc i)) (lacks (suc i)) (λ _. refl) (rows (suc k) (suc i)) in
    omega (arith, ap length (rows_lack (suc k) i), length_rows (suc k) i, length_rows (suc k) (suc i))

ranks_of_numbers : (ranks : List ℕ) (n : ℕ) → n ≤ length ranks → map (rank ranks) (numbers n) ≡ take n ranks
ranks_of_numbers ranks zero h = refl
ranks_of_numbers ranks (suc n) h =
    map_push (rank ranks) (numbers n) (suc n)
    ∙ rw (ranks_of_numbers ranks n (omega arith), sub-one, take-suc ranks n 0 h)

turn_length : (ranks : List ℕ) (i : ℕ) → length (turn ranks i) ≡ sum_by (λ k. length (rows_in_turn i k)) ranks
turn_length ranks i =
    let count : ℕ → ℕ = λ k. length (rows_in_turn i k) in
    length_joined (tries_in ranks i) (λ s. count (rank ranks s)) (λ s. length-map _ _) (numbers (length ranks))
    ∙ sym (fold-map (λ n k. n + count k) (rank ranks) 0 (numbers (length ranks)))
    ∙ ap (sum_by count) (ranks_of_numbers ranks (length ranks) (omega arith) ∙ take-length ranks)

all_tries_sum : (d : ℕ) (ks : List ℕ) → sum_by (λ k. d ^ k) ks ≡ all_tries d ks
all_tries_sum d [] = refl
all_tries_sum d (k ∷ ks) = sum_by-cons (λ k. d ^ k) k ks ∙ ap (λ n. d ^ k + n) (all_tries_sum d ks)

-- the turns up to the m-th have, over all symbols, m to the power of the rank tries
pub turns_length : (ranks : List ℕ) (m : ℕ) → length (turns ranks m) ≡ all_tries m ranks
turns_length ranks zero =
    turn_length ranks zero ∙ ap (λ f. sum_by f ranks) (fun_ext first_turn) ∙ all_tries_sum 0 ranks
turns_length ranks (suc m) =
    let long = length-append (turns ranks m) (turn ranks (suc m)) in
    let more = sumBy_sums (λ k. length (rows_in_turn (suc m) k)) (λ k. m ^ k) (λ k. suc m ^ k) (later_turn m) ranks in
    rw (← all_tries_sum (suc m) ranks)
    (omega (arith, turns_length ranks m, turn_length ranks (suc m), all_tries_sum m ranks))

pub all_tries_mono : (ranks : List ℕ) (m n : ℕ) → m ≤ n → all_tries m ranks ≤ all_tries n ranks
all_tries_mono [] m n h = omega arith
all_tries_mono (k ∷ ks) m n h = omega (arith, pow-le-pow_left h k, all_tries_mono ks m n h)

pub turns_mono : (ranks : List ℕ) (m n : ℕ) → m ≤ n → length (turns ranks m) ≤ length (turns ranks n)
turns_mono ranks m n h = rw (turns_length ranks m, turns_length ranks n) (all_tries_mono ranks m n h)

-- later turns come after: a try keeps its place
pub turns_stay :
    (ranks : List ℕ) (m n i : ℕ) (d : Try) → m ≤ n → i < length (turns ranks m) → get_or (turns ranks n) i d ≡ get_or (turns ranks m) i d
turns_stay ranks m zero i d h l = let e : m ≡ 0 = omega arith in rw e
turns_stay ranks m (suc n) i d h l =
    ⊎_elim
    (λ k. get_or_append_left (turns ranks n) (turn ranks (suc n)) d i (le_trans l (turns_mono ranks m n (le_of_suc-le-suc k)))
    ∙ turns_stay ranks m n i d (le_of_suc-le-suc k) l)
    (λ k. let e : m ≡ suc n = omega arith in rw e)
    (cases_lt m (suc n))

has_rows : (i : ℕ) (row : List ℕ) → Within i row → Has (rows (length row) i) row
has_rows i [] h = has_push [] []
has_rows i (c ∷ cs) h =
    has_joined (headed (rows (length cs) i)) (numbers i) c (c ∷ cs) (has_numbers i c h.0)
    (has_map (λ row. c ∷ row) (rows (length cs) i) cs (has_rows i cs h.1))

has_rows_in_turn :
    (i : ℕ) (row : List ℕ) → Within (suc i) row → occurs (suc i) row ≡ true → Has (rows_in_turn (suc i) (length row)) row
has_rows_in_turn i [] h o = absurd (false≢true o)
has_rows_in_turn i (c ∷ cs) h o = has_kept_by (occurs (suc i)) _ (c ∷ cs) (has_rows (suc i) (c ∷ cs) h) o

has_turn :
    (ranks : List ℕ) (i s : ℕ) (row : List ℕ)
    → Declared ranks s
    → length row ≡ rank ranks s
    → Has (rows_in_turn i (length row)) row
    → Has (turn ranks i) (record { symbol = s; row = row })
has_turn ranks i s row dec len h =
    has_joined (tries_in ranks i) (numbers (length ranks)) s (record { symbol = s; row = row })
    (has_numbers (length ranks) s dec)
    (has_map (λ row. record { symbol = s; row = row }) (rows_in_turn i (rank ranks s)) row (rw len at h))

within_less : (i : ℕ) (row : List ℕ) → Within (suc i) row → occurs (suc i) row ≡ false → Within i row
within_less i [] h o = tt
within_less i (c ∷ cs) h o =
    let (here, rest) = or_parts (eqb c (suc i)) (occurs (suc i) cs) o in
    let other = eqb-false c (suc i) here in
    (omega (arith, h.0), within_less i cs h.1 rest)

-- every row of numbers up to m is taken by the m-th turn
pub taken :
    (ranks : List ℕ) (m s : ℕ) (row : List ℕ)
    → Declared ranks s
    → length row ≡ rank ranks s
    → Within m row
    → (i : ℕ) × (i < length (turns ranks m)) × ((d : Try) → get_or (turns ranks m) i d ≡ record { symbol = s; row = row })
taken ranks zero s [] dec len within = has_turn ranks zero s [] dec len (has_push [] [])
taken ranks zero s (c ∷ cs) dec len within = absurd (omega (arith, within.0))
taken ranks (suc m) s row dec len within =
    let front : List Try = turns ranks m in
    let last : List Try = turn ranks (suc m) in
    ⊎_elim
    (λ o. has_append_right front last _ (has_turn ranks (suc m) s row dec len (has_rows_in_turn m row within o)))
    (λ o. has_append_left front last _ (taken ranks m s row dec len (within_less m row within o)))
    (cases_Bool (occurs (suc m) row))

-- What a try of the first m turns is: one of some turn i, all earlier turns being before it.
pub record Placed (ranks : List ℕ) (m n : ℕ) (y : Try) : Type 0 where
  pub at : ℕ
  pub at_most : at ≤ m
  pub declared : Declared ranks y.symbol
  pub long : length y.row ≡ rank ranks y.symbol
  pub within : Within at y.row
  pub holds : 1 ≤ at → occurs at y.row ≡ true
  pub after : (k : ℕ) → k < at → length (turns ranks k) ≤ n
  pub before : n < length (turns ranks at)

abbrev Row : ℕ → ℕ → List ℕ → Type 0
Row k i row = (length row ≡ k) × Within i row

-- a row of turn i for rank k
abbrev TurnRow : ℕ → ℕ → List ℕ → Type 0
TurnRow i k row = Row k i row × (1 ≤ i → occurs i row ≡ true)

-- a try of turn i
abbrev TurnTry : List ℕ → ℕ → Try → Type 0
TurnTry ranks i y = Declared ranks y.symbol × TurnRow i (rank ranks y.symbol) y.row

all_rows : (k i : ℕ) → AllByRecursion (Row k i) (rows k i)
all_rows zero i = ((refl, tt), tt)
all_rows (suc k) i =
    let longer : (c : ℕ) → (1 ≤ c) × (c ≤ i) → AllByRecursion (λ row. Row (suc k) i (c ∷ row)) (rows k i) =
    λ c h. All-weaker (Row k i) _ (λ row r. (ap suc r.0, (h, r.1))) (rows k i) (all_rows k i) in
    all_joined (headed (rows k i)) (Row (suc k) i) (numbers i)
    (all_numbers _ i (λ c h. All-map (Row (suc k) i) (λ row. c ∷ row) (rows k i) (longer c h)))

all_rows_in_turn : (i k : ℕ) → AllByRecursion (TurnRow i k) (rows_in_turn i k)
all_rows_in_turn zero zero = (((refl, tt), λ h. absurd (omega arith)), tt)
all_rows_in_turn zero (suc k) = tt
all_rows_in_turn (suc i) zero = tt
all_rows_in_turn (suc i) (suc k) =
    let rs : List (List ℕ) = rows (suc k) (suc i) in
    let p : List ℕ → Bool = occurs (suc i) in
    all_both (Row (suc k) (suc i)) (λ row. 1 ≤ suc i → p row ≡ true) (filter p rs)
    (all_kept_by p (Row (suc k) (suc i)) rs (all_rows (suc k) (suc i)))
    (All-weaker (λ row. p row ≡ true) _ (λ row e _. e) (filter p rs) (kept_by_passes p rs))

all_turn : (ranks : List ℕ) (i : ℕ) → AllByRecursion (TurnTry ranks i) (turn ranks i)
all_turn ranks i =
    all_joined (tries_in ranks i) (TurnTry ranks i) (numbers (length ranks))
    (all_numbers _ (length ranks) (λ s dec. All-map (TurnTry ranks i) (λ row. record { symbol = s; row = row }) _
    (All-weaker (TurnRow i (rank ranks s)) _ (λ row r. (dec, r)) _ (all_rows_in_turn i (rank ranks s)))))

placed_in :
    (ranks : List ℕ) (i m n : ℕ) (y : Try)
    → i ≤ m
    → TurnTry ranks i y
    → ((k : ℕ) → k < i → length (turns ranks k) ≤ n)
    → n < length (turns ranks i)
    → Placed ranks m n y
placed_in ranks i m n y h (dec, r) after before =
    record {
      at = i;
      at_most = h;
      declared = dec;
      long = r.0.0;
      within = r.0.1;
      holds = r.1;
      after = after;
      before = before;
    }

placed_within :
    (ranks : List ℕ) (i m n : ℕ) (d : Try) → i ≤ m → n < length (turns ranks i) → Placed ranks m n (get_or (turns ranks i) n d)
placed_within ranks zero m n d h l =
    let is = All-get_or (TurnTry ranks zero) (turn ranks zero) n d l (all_turn ranks zero) in
    placed_in ranks zero m n _ h is (λ k g. absurd (omega arith)) l
placed_within ranks (suc i) m n d h l =
    let front : List Try = turns ranks i in
    let last : List Try = turn ranks (suc i) in
    let long = length-append front last in
    let is : length front ≤ n → TurnTry ranks (suc i) (get_or last (n - length front) d) =
    λ g. All-get_or (TurnTry ranks (suc i)) last (n - length front) d (omega arith) (all_turn ranks (suc i)) in
    ⊎_elim
    (λ g. rw (get_or_append_left front last d n g) (placed_within ranks i m n d (omega arith) g))
    (λ g. rw (get_or-append_right front last (length front) n d refl g)
    (placed_in ranks (suc i) m n _ h (is g) (λ k e. le_trans (turns_mono ranks k i (le_of_suc-le-suc e)) g) l))
    (cases_lt n (length front))

pub placed : (ranks : List ℕ) (m n : ℕ) (d : Try) → n < length (turns ranks m) → Placed ranks m n (get_or (turns ranks m) n d)
placed ranks m n d l = placed_within ranks m m n d (omega arith) l

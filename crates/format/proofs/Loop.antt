-- Reading a text line by line: what holds after some lines, one line more, and each way to end. Assumes nothing.
use Rattle.std.proofs.Common.{◌≡◌, ℕ, suc, ◌+◌, ◌≤◌, List, [], ◌∷◌, ◌++◌, length, sym, refl, ap, ◌∙◌, subst, inl, inr, add-one}
use Rattle.std.proofs.lemmas.List.{append-nil, append_assoc, length_push, flat_map_more}
use Rattle.words.specs.Words.{Lacks}
use Rattle.format.specs.Lines.{Line, written, text_of_lines, Formed}
use Rattle.format.specs.Reading.{Draft, blank, MayFollow, Complete, checks, AllPass, after, Reads, declared, Accepted, LineFault, Faulty}

pub reads_push :
    (d e : Draft) (ls : List Line) (l : Line)
    → Reads d ls e
    → Formed l
    → MayFollow e e.place l
    → AllPass (checks e l)
    → Reads d (ls ++ (l ∷ [])) (after e l)
reads_push d e [] l r f m a =
    subst (λ x. Formed l × MayFollow x x.place l × AllPass (checks x l) × (after x l ≡ after e l)) (sym r) (f, m, a, refl)
reads_push d e (k ∷ ls) l r f m a = (r.0, r.1, r.2, reads_push (after d k) e ls l r.3 f m a)

-- the first n lines are read, and led to the draft; the rest is left
abbrev pub ReadSoFar : List ℕ → List ℕ → Draft → ℕ → Type 0
ReadSoFar text rest d n =
    (ls : List Line) × (text ≡ text_of_lines ls ++ rest) × Reads blank ls d × (n ≡ length ls)

pub so_far_more :
    (text rest bytes more : List ℕ) (d : Draft) (n : ℕ) (l : Line)
    → ReadSoFar text rest d n
    → rest ≡ bytes ++ (10 ∷ more)
    → Formed l
    → MayFollow d d.place l
    → AllPass (checks d l)
    → written l ≡ bytes
    → ReadSoFar text more (after d l) (n + 1)
so_far_more text rest bytes more d n l s e formed m a w =
    let f = λ (x : Line). written x ++ (10 ∷ []) in (
      s.0 ++ (l ∷ []),
      s.1
          ∙ ap (λ r. text_of_lines s.0 ++ r)
          (e ∙ ap (λ b. b ++ (10 ∷ more)) (sym w) ∙ sym (append_assoc (written l) (10 ∷ []) more))
          ∙ sym (append_assoc (text_of_lines s.0) (f l) more)
          ∙ ap (λ x. x ++ more) (flat_map_more f [] s.0 l),
      reads_push blank d s.0 l s.2 formed m a,
      ap (λ k. k + 1) s.3 ∙ sym (length_push s.0 l),
    )

pub so_far_fault :
    (text rest bytes more : List ℕ) (d : Draft) (n k : ℕ)
    → length text ≤ 65536
    → ReadSoFar text rest d n
    → rest ≡ bytes ++ (10 ∷ more)
    → Lacks 10 bytes
    → LineFault d bytes k
    → Faulty text k (n + 1)
so_far_fault text rest bytes more d n k short s e lacks fault =
    inr (short, (s.0, d, rest, s.1, s.2, add-one n ∙ ap suc s.3, inl (bytes, more, e, lacks, fault)))

pub so_far_stops :
    (text rest : List ℕ) (d : Draft) (n : ℕ)
    → length text ≤ 65536
    → ReadSoFar text rest d n
    → Lacks 10 rest
    → (rest ≡ [] → Complete d → ⊥)
    → Faulty text 102 (n + 1)
so_far_stops text rest d n short s lacks open' =
    inr (short, (s.0, d, rest, s.1, s.2, add-one n ∙ ap suc s.3, inr (lacks, refl, open')))

pub so_far_done :
    (text rest : List ℕ) (d : Draft) (n : ℕ)
    → length text ≤ 65536
    → ReadSoFar text rest d n
    → rest ≡ []
    → Complete d
    → Accepted text (declared d)
so_far_done text rest d n short s e c =
    record {
      short = short;
      lines = s.0;
      draft = d;
      written = s.1 ∙ ap (λ r. text_of_lines s.0 ++ r) e ∙ append-nil _;
      reads = s.2;
      complete = c;
      record_is = refl;
    }

-- What a method gives back.
use Rattle.std.specs.Prelude.{◌≡◌, ℕ, List, map, take, Result, MatchResult}
use Rattle.equivalence.specs.Automata as automata
use Rattle.format.specs.Lines as lines
use Rattle.format.specs.Lines.{Line, gives_rule}
use Rattle.format.specs.Reading as reading
use Rattle.format.specs.Reading.{Place, AllPass, FirstFailing, after, checks, draft_part, number_of}
use Rattle.format.specs.Records.{state_names, symbol_names}
use Rattle.refusals.specs.Numbers.{number}
use Rattle.refusals.specs.declared.Refusal.{Refusal}
use Rattle.rules.specs.Rules.{rule_model}
use Rattle.rules.specs.declared.Rule.{Rule}
use Rattle.drafts.specs.declared.Draft.{Draft}
use Rattle.drafts.specs.Drafts.{draft_of}

-- A draft takes a line, at any place: the line passes its checks and the draft is as after it, or the first check that fails
-- gives the refusal and the draft is as it was.
abbrev pub Takes : {U : Type 0} → Draft → Line → Result U Refusal → Draft → Type 0
Takes before l r result =
    (p : Place) →
    let d = draft_of before p in
    MatchResult r
    (λ _. AllPass (checks d l) × (draft_of result (after d l).place ≡ after d l))
    (λ e. FirstFailing (checks d l) (number e) × (draft_of result p ≡ d))

-- the rule that a rule line adds
abbrev pub line_rule : reading.Draft → lines.Side → List ℕ → List ℕ → ℕ → List (List ℕ) → automata.Rule ℕ
line_rule d x s t w cs =
    let number = number_of (state_names (draft_part d x).states) in
    record { symbol = number_of (symbol_names d.symbols) s; target = number t; weight = w; children = map number cs }

-- A rule is made of a rule line that passes its first five checks, all but the one on room.
abbrev pub Makes : Draft → lines.Side → List ℕ → List ℕ → ℕ → List (List ℕ) → Result Rule Refusal → Type 0
Makes before x s t w cs r =
    (p : Place) →
    let d = draft_of before p in
    let all = checks d (gives_rule x s t w cs) in
    MatchResult r (λ u. AllPass (take 5 all) × (rule_model u ≡ line_rule d x s t w cs)) (λ e. FirstFailing all (number e))

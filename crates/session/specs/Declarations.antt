-- What a list of calls declares: symbols and rules as given, in their order, and for each state the final weight given last,
-- or zero.
use Rattle.std.specs.Prelude.{ℕ, cond, ◌&&◌, List, [], ◌∷◌, map, ◌==◌}
use Rattle.std.specs.List.{flat_map}
use Rattle.equivalence.specs.Automata.{Rule, Automaton, Sides, numbers}
use Rattle.equivalence.specs.Valuing.{last_or}
use Rattle.session.specs.Calls.{Call, call_symbol, call_rule, call_final, call_weigh}

-- the rank that a call declares a symbol of
abbrev pub symbol_given : Call → List ℕ
symbol_given (call_symbol k) = k ∷ []
symbol_given (call_rule x f t w cs) = []
symbol_given (call_final x q w) = []
symbol_given (call_weigh x es) = []

-- the rule that a call gives to a side
abbrev pub rule_given : ℕ → Call → List (Rule ℕ)
rule_given y (call_symbol k) = []
rule_given y (call_rule x f t w cs) = cond (x == y) (record { symbol = f; target = t; weight = w; children = cs } ∷ []) []
rule_given y (call_final x q w) = []
rule_given y (call_weigh x es) = []

-- the final weight that a call gives to a state of a side
abbrev pub final_given : ℕ → ℕ → Call → List ℕ
final_given y p (call_symbol k) = []
final_given y p (call_rule x f t w cs) = []
final_given y p (call_final x q w) = cond (x == y && q == p) (w ∷ []) []
final_given y p (call_weigh x es) = []

-- the automaton of n states that the calls declare for a side
abbrev pub automaton_given : ℕ → ℕ → List Call → Automaton ℕ
automaton_given n y cs =
    record {
      finals = map (λ p. last_or 0 (flat_map (final_given y p) cs)) (numbers n);
      rules = flat_map (rule_given y) cs;
    }

abbrev pub sides_given : ℕ → ℕ → List Call → Sides ℕ
sides_given n m cs =
    record { ranks = flat_map symbol_given cs; a = automaton_given n 0 cs; b = automaton_given m 1 cs }

-- How the lines of a draft's tables make the text of the record that it declares.
use Rattle.std.proofs.Common.{◌≡◌, ℕ, ◌≤◌, List, [], ◌∷◌, ◌++◌, map, length, take, drop, sym, refl, ap, ◌∙◌, append_assoc, arith}
use mathlib.Core.List.{map-map}
use Rattle.words.specs.Puts.{overlaid}
use Rattle.words.proofs.Puts.{put_all, put_rest}
use Rattle.format.specs.Lines.{Line, text_of_lines}
use Rattle.format.specs.Lines as lines
use Rattle.format.specs.Records as records
use Rattle.format.specs.Records.{part}
use Rattle.shapes.specs.declared.shape.Kind.{Kind}
use Rattle.drafts.specs.Drafts.{part_of, side_part}
use Rattle.drafts.specs.declared.Draft.{Draft}
use Rattle.lines.specs.Recognized.{side_of}
use Rattle.side.specs.declared.Side.{Side}
use Rattle.side.specs.declared.Side.TheVariants.{A, B}
use Rattle.line_writer.specs.Writing.{ended}
use Rattle.writer.specs.Blocks.{field_block, rule_block, state_block, symbol_block}
use Rattle.writer.specs.Declared.{Holds}
use Rattle.drafts.specs.Drafts.{record_of}

-- the lines of a table's entries are those of what it declares
pub lines_are : {X Y : Type 0} (f : Y → Line) (g : X → Y) (xs : List X) {ys : List Y} → map g xs ≡ ys → map (λ x. f (g x)) xs ≡ map f ys
lines_are f g xs e = sym (map-map f g xs) ∙ ap (map f) e

pub kind_is : {k l : Kind} {n m : ℕ} → k ≡ l → n ≡ m → ended (lines.names_field k n) ≡ ended (lines.names_field l m)
kind_is {k} {l} {n} {m} p q = ap (λ x. ended (lines.names_field x n)) p ∙ ap (λ x. ended (lines.names_field l x)) q

-- the text of lines in two parts
pub text_append : (ls ms : List Line) → text_of_lines ls ++ text_of_lines ms ≡ text_of_lines (ls ++ ms)
text_append [] ms = refl
text_append (l ∷ ls) ms = append_assoc (ended l) (text_of_lines ls) (text_of_lines ms) ∙ ap (λ t. ended l ++ t) (text_append ls ms)

-- a side of a draft
pub part_is : (d : Draft) (x : Side) → part_of (side_part d x) ≡ part (record_of d) (side_of x)
part_is d A = refl
part_is d B = refl

-- the blocks make the text
pub text_is : (r : records.Record) → text_of_lines (field_block r) ++ (text_of_lines (symbol_block r) ++ (text_of_lines (state_block r) ++ text_of_lines (rule_block r))) ≡ records.text_of r
text_is r =
    ap (λ t. text_of_lines (field_block r) ++ (text_of_lines (symbol_block r) ++ t)) (text_append (state_block r) (rule_block r))
    ∙ ap (λ t. text_of_lines (field_block r) ++ t) (text_append (symbol_block r) (state_block r ++ rule_block r))
    ∙ text_append (field_block r) (symbol_block r ++ (state_block r ++ rule_block r))

-- a write of a text that was found to have room
pub has_room : {text before after : List ℕ} {m n : ℕ} → m ≡ length text → m ≤ length before → n ≡ length text → after ≡ overlaid before 0 text → Holds text before after n
has_room {text} {before} {after} {m} {n} p l q e =
    let room : length text ≤ length before = omega arith in
    record {
      long = q;
      room = omega arith;
      front = ap (λ k. take k after) q ∙ ap (take (length text)) e ∙ put_all before text room;
      beyond = rw q (ap (drop (length text)) e ∙ put_rest before text room);
    }

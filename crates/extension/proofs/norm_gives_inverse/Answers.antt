use Rattle.std.proofs.Common.{refl}
use Rattle.extension.proofs.Laws.{inverse_divided}
use Rattle.extension.proofs.norm_gives_inverse.Goals as goal

pub returns : goal.returns
returns c = λ B L u v E x h. inverse_divided B L u v E x h _ refl

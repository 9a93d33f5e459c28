use Rattle.extension.proofs.Laws.{extends_from_test, test_from_extends}
use Rattle.extension.proofs.extends_by_test.Goals as goal

pub returns : goal.returns
returns c = λ B u v. (extends_from_test B u v, test_from_extends B u v)

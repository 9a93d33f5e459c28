-- The numbers of the refusals.
use Rattle.std.specs.Prelude.{ℕ}
use Rattle.refusals.specs.declared.Refusal.{Refusal}
use Rattle.refusals.specs.declared.Refusal.TheVariants.{TextTooLong, Malformed, NoSuchModulus, NoExtension, WeightTooLarge, StateCountOutOfRange, Undeclared, Repeated, WrongChildren, RankTooLarge, NoSuchSide, MalformedTree, BufferTooShort, Sealed, NotSealed, Ended, NotEnded, TableFull}

abbrev pub number : Refusal → ℕ
number TextTooLong = 101
number Malformed = 102
number NoSuchModulus = 103
number NoExtension = 104
number WeightTooLarge = 105
number StateCountOutOfRange = 106
number Undeclared = 107
number Repeated = 108
number WrongChildren = 109
number RankTooLarge = 110
number NoSuchSide = 111
number MalformedTree = 112
number BufferTooShort = 113
number Sealed = 201
number NotSealed = 202
number Ended = 203
number NotEnded = 204
number TableFull = 205

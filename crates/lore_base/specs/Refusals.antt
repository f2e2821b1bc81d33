-- The number and the name of each refusal.
use Rattle.std.specs.Prelude.{ℕ, List, codes}
use Rattle.lore_base.specs.Types.{Refusal}
use Rattle.lore_base.specs.Types.{BadToken, RealRefused, NumberRange, TextTooLong, Syntax, Unfinished}
use Rattle.lore_base.specs.Types.{UnknownName, UnknownVariable, DuplicateVariable, TooManyRanges}
use Rattle.lore_base.specs.Types.{DuplicateLocal, UndefinedLocal, TooManyRows, NotOne, AtomicParent}
use Rattle.lore_base.specs.Types.{HasChildren, OidsSpent, TooManyLabels, TooManyNames, TooManyObjects}
use Rattle.lore_base.specs.Types.{TooManyEdges, GuideNodes, LimitRange, NotFresh, BadRestore, GuideCells}
use Rattle.lore_base.specs.Types.{HistoryFull, NoHistory, MomentRange, TooManyViews, UnknownView}

-- the number that a reply shows
abbrev pub number_of : Refusal → ℕ
number_of BadToken = 1
number_of RealRefused = 2
number_of NumberRange = 3
number_of TextTooLong = 4
number_of Syntax = 5
number_of Unfinished = 6
number_of UnknownName = 7
number_of UnknownVariable = 8
number_of DuplicateVariable = 9
number_of TooManyRanges = 10
number_of DuplicateLocal = 11
number_of UndefinedLocal = 12
number_of TooManyRows = 13
number_of NotOne = 14
number_of AtomicParent = 15
number_of HasChildren = 16
number_of OidsSpent = 17
number_of TooManyLabels = 18
number_of TooManyNames = 19
number_of TooManyObjects = 20
number_of TooManyEdges = 21
number_of GuideNodes = 22
number_of LimitRange = 23
number_of NotFresh = 24
number_of BadRestore = 25
number_of GuideCells = 26
number_of HistoryFull = 27
number_of NoHistory = 28
number_of MomentRange = 29
number_of TooManyViews = 30
number_of UnknownView = 31

-- the name that a reply shows behind it
abbrev pub text_of : Refusal → List ℕ
text_of BadToken = codes "BadToken"
text_of RealRefused = codes "RealRefused"
text_of NumberRange = codes "NumberRange"
text_of TextTooLong = codes "TextTooLong"
text_of Syntax = codes "Syntax"
text_of Unfinished = codes "Unfinished"
text_of UnknownName = codes "UnknownName"
text_of UnknownVariable = codes "UnknownVariable"
text_of DuplicateVariable = codes "DuplicateVariable"
text_of TooManyRanges = codes "TooManyRanges"
text_of DuplicateLocal = codes "DuplicateLocal"
text_of UndefinedLocal = codes "UndefinedLocal"
text_of TooManyRows = codes "TooManyRows"
text_of NotOne = codes "NotOne"
text_of AtomicParent = codes "AtomicParent"
text_of HasChildren = codes "HasChildren"
text_of OidsSpent = codes "OidsSpent"
text_of TooManyLabels = codes "TooManyLabels"
text_of TooManyNames = codes "TooManyNames"
text_of TooManyObjects = codes "TooManyObjects"
text_of TooManyEdges = codes "TooManyEdges"
text_of GuideNodes = codes "GuideNodes"
text_of LimitRange = codes "LimitRange"
text_of NotFresh = codes "NotFresh"
text_of BadRestore = codes "BadRestore"
text_of GuideCells = codes "GuideCells"
text_of HistoryFull = codes "HistoryFull"
text_of NoHistory = codes "NoHistory"
text_of MomentRange = codes "MomentRange"
text_of TooManyViews = codes "TooManyViews"
text_of UnknownView = codes "UnknownView"

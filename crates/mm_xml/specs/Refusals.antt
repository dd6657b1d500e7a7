-- What the reader answers.
use Rattle.std.specs.Prelude.{◌≡◌, ◌<◌, ◌≤◌, Result, Ok, Err}
use Rattle.mm_tree.specs.declared.Kind.{Kind}
use Rattle.mm_tree.specs.declared.Plain.{Plain}
use Rattle.mm_tree.specs.Trees.{Tree, one, levels, tree_of}
use Rattle.mm_tree.specs.Forests.{level_limit}
use Rattle.mm_xml.specs.declared.error.XmlError.{XmlError}
use Rattle.mm_xml.specs.declared.error.XmlError.TheVariants as error

abbrev pub IsShallow : Tree Kind → Type 0
IsShallow t = levels (one t) ≤ level_limit

abbrev pub IsTooDeep : Tree Kind → Type 0
IsTooDeep t = level_limit < levels (one t)

-- where the bytes spell the tree: the tree itself, unless it is too deep or memory runs out
abbrev pub AnswersFor : Result Plain XmlError → Tree Kind → Type 0
AnswersFor (Ok p) t = (tree_of p ≡ t) × IsShallow t
AnswersFor (Err error.NotXml) t = ⊥
AnswersFor (Err error.TooDeep) t = IsTooDeep t
AnswersFor (Err error.Memory) t = Unit {0}

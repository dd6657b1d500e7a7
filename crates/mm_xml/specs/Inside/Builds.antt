-- What the stack of open elements, and the outline, stand for.
use Rattle.std.specs.Prelude.{ℕ, ◌≡◌, ◌<◌, ◌≤◌, Bool, true, false, IsTrue, List, [], ◌∷◌, Option, Some, None, Result, Ok, Err, map, reverse}
use Rattle.mm_tree.specs.declared.Kind.{Kind}
use Rattle.mm_tree.specs.declared.Plain.{Plain}
use Rattle.std.specs.Borrow.{Bor}
use Rattle.std.specs.Str.{chars}
use Rattle.mm_tree.specs.Trees.{Tree, tree_of}
use Rattle.mm_tree.specs.Validity.{are_chars}
use Rattle.mm_xml.specs.Grammar.{without_mark}
use Rattle.mm_xml.specs.declared.stack.Opened.{Opened}
use Rattle.mm_xml.specs.declared.stack.Stack.{Stack}
use Rattle.mm_xml.specs.declared.outline.Outline.{Outline}
use Rattle.mm_xml.specs.declared.error.XmlError.{XmlError}
use Rattle.mm_xml.specs.declared.error.XmlError.TheVariants as error
use Rattle.mm_xml.specs.declared.order.Order.{Order}
use Rattle.mm_xml.specs.declared.lexeme.Lexeme.{Lexeme}
use Rattle.mm_xml.specs.Inside.Machine.{Frame, State, Before, Inside, After, depth_of, deepest_of}
use Rattle.mm_xml.specs.Inside.Machine as machine
use Rattle.mm_xml.specs.Inside.Lexemes.{sign_of}
use Rattle.mm_xml.specs.Inside.Outlines.{Outlined, outlined}
use Rattle.mm_xml.specs.Inside.Passages.{allowed_at}
use Rattle.mm_tree.specs.Forests.{level_limit}
use Rattle.mm_xml.specs.Refusals.{IsShallow, IsTooDeep}

abbrev pub frame_of : Opened → Frame
frame_of f = record { kind = f.kind; before = map tree_of f.children.items }

-- the innermost first
abbrev pub frames_of : List Opened → List Frame
frames_of fs = map frame_of (reverse fs)

abbrev pub state_at : List Frame → Option Plain → State
state_at [] None = Before
state_at [] (Some t) = After (tree_of t)
state_at (f ∷ fs) whole = Inside f fs

abbrev pub state_of : Stack → State
state_of s = state_at (frames_of s.frames.items) s.whole

abbrev pub outline_of : Outline → Outlined
outline_of o = outlined (reverse o.names.items) o.begun

abbrev pub order_of : Order → machine.Order
order_of o = record { squares = o.squares; before = o.before; depth = o.depth; textual = o.textual }

-- the next lexeme in its order, and what comes after it
abbrev pub Follows : Result (Lexeme × Bor (List ℕ)) XmlError → machine.Order → machine.Order → List ℕ → Type 0
Follows (Ok x) old new cs = (allowed_at old cs ≡ Some (sign_of x.0, chars x.1.now)) × (new ≡ machine.sign_next old (sign_of x.0))
Follows (Err error.NotXml) old new cs = allowed_at old cs ≡ None
Follows (Err error.TooDeep) old new cs = ⊥
Follows (Err error.Memory) old new cs = Unit {0}

-- A step that may add a node: there is room for it, or it would be a level too many.
abbrev pub Steps : {U : Type 0} → Result U XmlError → Bool → State → State → Option State → Type 0
Steps (Ok u) adds old new moved = (moved ≡ Some new) × (IsTrue adds → depth_of old < level_limit)
Steps (Err error.NotXml) adds old new moved = moved ≡ None
Steps (Err error.TooDeep) adds old new moved = IsTrue adds × (level_limit ≤ depth_of old)
Steps (Err error.Memory) adds old new moved = Unit {0}

-- Several steps that lead nowhere, or too deep if anywhere, or memory ran out.
abbrev pub PlaceFails : XmlError → Option State → Type 0
PlaceFails error.NotXml moved = moved ≡ None
PlaceFails error.TooDeep moved = (s : State) → moved ≡ Some s → level_limit < deepest_of s
PlaceFails error.Memory moved = Unit {0}

-- Several steps that lead to a new state, and keep within the levels.
abbrev pub IsPlaced : State → State → Option State → Type 0
IsPlaced old new moved = (moved ≡ Some new) × (deepest_of old ≤ level_limit → deepest_of new ≤ level_limit)

abbrev pub Places : {U : Type 0} → Result U XmlError → State → State → Option State → Type 0
Places (Ok u) old new moved = IsPlaced old new moved
Places (Err e) old new moved = PlaceFails e moved

-- a step that adds no node
abbrev pub MovesTo : {S U : Type 0} → Result U XmlError → S → Option S → Type 0
MovesTo (Ok u) new moved = moved ≡ Some new
MovesTo (Err error.NotXml) new moved = moved ≡ None
MovesTo (Err error.TooDeep) new moved = ⊥
MovesTo (Err error.Memory) new moved = Unit {0}

abbrev pub Moves : {U : Type 0} → Result U XmlError → Outlined → Option Outlined → Type 0
Moves result new moved = MovesTo result new moved

-- a step of the outline, which also tells whether the characters since the last tag are blank
abbrev pub Blanks : Result Bool XmlError → Outlined → Option (Outlined × Bool) → Type 0
Blanks (Ok blank) new moved = moved ≡ Some (new, blank)
Blanks (Err error.NotXml) new moved = moved ≡ None
Blanks (Err error.TooDeep) new moved = ⊥
Blanks (Err error.Memory) new moved = Unit {0}

-- whether there is a tree
abbrev pub Outlines : {U : Type 0} → Result U XmlError → Bool → Type 0
Outlines (Ok u) there = there ≡ true
Outlines (Err error.NotXml) there = there ≡ false
Outlines (Err error.TooDeep) there = ⊥
Outlines (Err error.Memory) there = Unit {0}

-- Several steps, to a state and the characters since the last tag.
abbrev pub AdvanceFails : XmlError → Option (State × List ℕ) → Type 0
AdvanceFails error.NotXml moved = moved ≡ None
AdvanceFails error.TooDeep moved = (y : State × List ℕ) → moved ≡ Some y → level_limit < deepest_of y.0
AdvanceFails error.Memory moved = Unit {0}

abbrev pub Advances : {U : Type 0} → Result U XmlError → State → State → List ℕ → Option (State × List ℕ) → Type 0
Advances (Ok u) old new run moved = (moved ≡ Some (new, run)) × (deepest_of old ≤ level_limit → deepest_of new ≤ level_limit)
Advances (Err e) old new run moved = AdvanceFails e moved

-- the tree, where all is closed
abbrev pub FinishFails : XmlError → Option (Tree Kind) → Type 0
FinishFails error.NotXml tree = tree ≡ None
FinishFails error.TooDeep tree = (t : Tree Kind) → tree ≡ Some t → IsTooDeep t
FinishFails error.Memory tree = Unit {0}

abbrev pub Finishes : Result Plain XmlError → State → Option (Tree Kind) → Type 0
Finishes (Ok p) old tree = (tree ≡ Some (tree_of p)) × (deepest_of old ≤ level_limit → IsShallow (tree_of p))
Finishes (Err e) old tree = FinishFails e tree

-- what is read, with a tree that is too deep told from none
abbrev pub Reads : Result Plain XmlError → Option (Tree Kind) → Type 0
Reads (Ok p) read = (read ≡ Some (tree_of p)) × IsShallow (tree_of p)
Reads (Err error.NotXml) read = read ≡ None
Reads (Err error.TooDeep) read = (t : Tree Kind) × (read ≡ Some t) × IsTooDeep t
Reads (Err error.Memory) read = Unit {0}

-- the text behind a byte order mark, where the bytes are UTF-8 of Chars
abbrev pub Decodes : Option (Bor (List ℕ)) → List ℕ → Type 0
Decodes (Some text) bytes = (are_chars bytes ≡ true) × (chars text.now ≡ without_mark (chars bytes))
Decodes None bytes = are_chars bytes ≡ false

abbrev pub Ends : Option Plain → Option (Tree Kind) → Type 0
Ends None t = t ≡ None
Ends (Some p) t = t ≡ Some (tree_of p)

-- the tree that was read, if it isn't too deep
abbrev pub Gives : Result Plain XmlError → Option (Tree Kind) → Type 0
Gives (Ok p) read = (read ≡ Some (tree_of p)) × IsShallow (tree_of p)
Gives (Err e) read = FinishFails e read

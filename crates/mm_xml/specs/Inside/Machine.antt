-- Placing nodes, and what may follow what.
use Rattle.std.specs.Prelude.{ℕ, zero, suc, ◌+◌, ◌-◌, List, [], ◌∷◌, ◌++◌, length, Bool, true, false, ◌&&◌, ◌||◌, not, ◌==◌, nat_le, max, Option, Some, None, if◌then◌else◌}
use Rattle.std.specs.List.{list_all}
use Rattle.std.specs.Str.{bytes_eq, encode_utf8_all}
use Rattle.mm_tree.specs.declared.Kind.{Kind}
use Rattle.mm_tree.specs.declared.Kind.TheVariants.{Words}
use Rattle.mm_tree.specs.Trees.{none, Tree, siblings, one, levels}
use Rattle.mm_tree.specs.Characters.{is_space}
use Rattle.mm_xml.specs.Syntax.{meant, Token, Data, Section, Comment, Instruction, Start, Close, Doctype}
use Rattle.mm_xml.specs.Grammar.{Bracket, Begin, End, end_name, text_brackets, start_brackets, is_inside}
use Rattle.mm_xml.specs.Inside.Lexing.{◌>>=◌}
use Rattle.mm_xml.specs.Inside.Declaring.{after_declaration}
use Rattle.mm_xml.specs.Inside.Telling.{Sign, Character, Named, Passage, Skipped, Opens, Closes, Doctyped, told, sign_at}

-- an element that is open: its kind, and its children so far
pub record Frame : Type 0 where
  pub kind : Kind
  pub before : List (Tree Kind)

-- before the element, inside it with the innermost frame first, or after it
pub data State : Type 0 where
  Before : State
  Inside : Frame → List Frame → State
  After : Tree Kind → State

abbrev pub fresh : Kind → Frame
fresh kind = record { kind = kind; before = [] }

abbrev pub with_child : Frame → Tree Kind → Frame
with_child f t = record { kind = f.kind; before = f.before ++ t ∷ [] }

abbrev pub frame_tree : Frame → Tree Kind
frame_tree f = (f.kind, siblings f.before)

abbrev pub closed : Tree Kind → List Frame → State
closed t [] = After t
closed t (f ∷ fs) = Inside (with_child f t) fs

abbrev pub place : State → Bracket → Option State
place Before (Begin kind) = Some (Inside (fresh kind) [])
place Before (End name) = None
place (Inside f fs) (Begin kind) = Some (Inside (fresh kind) (f ∷ fs))
place (Inside f fs) (End name) = if bytes_eq name (end_name f.kind) then Some (closed (frame_tree f) fs) else None
place (After t) p = None

abbrev pub place_all : State → List Bracket → Option State
place_all s [] = Some s
place_all s (p ∷ ps) = place s p >>= λ x. place_all x ps

-- the tree, where all is closed
abbrev pub finished : State → Option (Tree Kind)
finished Before = None
finished (Inside f fs) = None
finished (After t) = Some t

abbrev pub build : State → List Bracket → Option (Tree Kind)
build s ps = place_all s ps >>= finished

-- no characters since the last tag
abbrev pub cleared : State → Option (State × List ℕ)
cleared s = Some (s, [])

-- one token, after the characters of run: the state, and the characters since the last tag
abbrev pub step : State → List ℕ → Token → Option (State × List ℕ)
step s run (Data p) = Some (s, run ++ meant p)
step s run (Section cs) = Some (s, run ++ cs)
step s run (Comment cs) = Some (s, run)
step s run (Instruction name cs) = Some (s, run)
step s run (Start empty name attributes gap) = place_all s (text_brackets run ++ start_brackets empty name attributes) >>= cleared
step s run (Close name gap) = place_all s (text_brackets run ++ End (encode_utf8_all name) ∷ []) >>= cleared
step s run (Doctype gap name ext after) = Some (s, run)

-- ---- the same from what tokens tell

-- a node without others in it
abbrev pub leaf_at : State → Kind → Option State
leaf_at Before kind = Some (After (kind, none))
leaf_at (Inside f fs) kind = Some (Inside (with_child f (kind, none)) fs)
leaf_at (After t) kind = None

-- the characters between two tags
abbrev pub text_step : State → List ℕ → Option State
text_step s run = if list_all is_space run then Some s else leaf_at s (Words (encode_utf8_all run))

abbrev pub open_step : State → Bool → Kind → Option State
open_step s empty kind = if empty then leaf_at s kind else place s (Begin kind)

-- a start tag, or an end tag, behind these characters, and the end
abbrev pub start_step : State → List ℕ → Bool → Kind → Option State
start_step s run empty kind = text_step s run >>= λ x. open_step x empty kind

abbrev pub end_step : State → List ℕ → List ℕ → Option State
end_step s run name = text_step s run >>= λ x. place x (End name)

abbrev pub finish_step : State → List ℕ → Option (Tree Kind)
finish_step s run = text_step s run >>= finished

abbrev pub sign_step : State → List ℕ → Sign → Option (State × List ℕ)
sign_step s run (Character c) = Some (s, run ++ c ∷ [])
sign_step s run (Named cs) = Some (s, run ++ cs)
sign_step s run (Passage cs) = Some (s, run ++ cs)
sign_step s run Skipped = Some (s, run)
sign_step s run (Opens empty kind) = start_step s run empty kind >>= cleared
sign_step s run (Closes name) = end_step s run name >>= cleared
sign_step s run Doctyped = Some (s, run)

-- how many elements are open
abbrev pub depth_of : State → ℕ
depth_of Before = 0
depth_of (Inside f fs) = suc (length fs)
depth_of (After t) = 0

-- the greatest depth of a node that was met, where these elements are open
abbrev pub reach : List Frame → ℕ
reach [] = 0
reach (f ∷ fs) = max (reach fs) (length fs + 1 + levels (siblings f.before))

abbrev pub deepest_of : State → ℕ
deepest_of Before = 0
deepest_of (Inside f fs) = reach (f ∷ fs)
deepest_of (After t) = levels (one t)

-- ---- what may follow what

-- square brackets just before, a document type may still stand, how many elements are open; a text has no tags
pub record Order : Type 0 where
  pub squares : ℕ
  pub before : Bool
  pub depth : ℕ
  pub textual : Bool

abbrev pub may_literal : Order → ℕ → Bool
may_literal o c = not ((c == 62) && nat_le 2 o.squares) && (is_inside o.depth || is_space c)

abbrev pub sign_may : Order → Sign → Bool
sign_may o (Character c) = may_literal o c
sign_may o (Named cs) = is_inside o.depth
sign_may o (Passage cs) = is_inside o.depth
sign_may o Skipped = true
sign_may o (Opens empty kind) = not o.textual
sign_may o (Closes name) = not o.textual
sign_may o Doctyped = o.before

abbrev pub may : Order → Token → Bool
may o t = sign_may o (told t)

abbrev pub cut : Order → Order
cut o = record { squares = 0; before = o.before; depth = o.depth; textual = o.textual }

abbrev pub sign_next : Order → Sign → Order
sign_next o (Character c) = record { squares = if c == 93 then o.squares + 1 else 0; before = o.before; depth = o.depth; textual = o.textual }
sign_next o (Named cs) = cut o
sign_next o (Passage cs) = cut o
sign_next o Skipped = cut o
sign_next o (Opens empty kind) = record { squares = 0; before = false; depth = if empty then o.depth else o.depth + 1; textual = o.textual }
sign_next o (Closes name) = record { squares = 0; before = false; depth = o.depth - 1; textual = o.textual }
sign_next o Doctyped = record { squares = 0; before = false; depth = o.depth; textual = o.textual }

abbrev pub next : Order → Token → Order
next o t = sign_next o (told t)

abbrev pub in_turn : Order → List Token → Bool
in_turn o [] = true
in_turn o (t ∷ ts) = may o t && in_turn (next o t) ts

-- the tree, token by token
abbrev pub accept : State → List ℕ → Order → List Token → Option (Tree Kind)
accept s run o [] = build s (text_brackets run)
accept s run o (t ∷ ts) = if may o t then (step s run t >>= λ y. accept y.0 y.1 (next o t) ts) else None

-- the same from the characters
abbrev pub read_from : ℕ → State → List ℕ → Order → List ℕ → Option (Tree Kind)
read_from n s run o [] = finish_step s run
read_from zero s run o (c ∷ cs) = None
read_from (suc n) s run o (c ∷ cs) = sign_at (c ∷ cs) >>= λ x. if sign_may o x.0 then (sign_step s run x.0 >>= λ y. read_from n y.0 y.1 (sign_next o x.0) x.1) else None

abbrev pub document : Order
document = record { squares = 0; before = true; depth = 0; textual = false }

abbrev pub text : Order
text = record { squares = 0; before = false; depth = 1; textual = true }

unfoldable pub read_as : Order → List ℕ → Option (Tree Kind)
read_as o cs = read_from (length cs) Before [] o cs

abbrev pub or_else : Option (Tree Kind) → Option (Tree Kind) → Option (Tree Kind)
or_else None other = other
or_else (Some t) other = Some t

-- without a declaration, in the document form or else in the text form
abbrev pub read_plain : List ℕ → Option (Tree Kind)
read_plain cs = or_else (read_as document cs) (read_as text cs)

-- behind a declaration, where there is one
abbrev pub read_behind : Option (List ℕ) → List ℕ → Option (Tree Kind)
read_behind None cs = read_plain cs
read_behind (Some rest) cs = read_as document rest

abbrev pub read_all : List ℕ → Option (Tree Kind)
read_all cs = read_behind (after_declaration cs) cs

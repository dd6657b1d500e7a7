-- How answers are written. Each line ends with a line feed (10), and its words are parted by spaces (32).
use Rattle.std.specs.Prelude.{ℕ, ℤ, ◌^◌, ◌-◌, min, List, [], ◌∷◌, ◌++◌, length, map, codes}
use Rattle.std.specs.List.{flat_map}
use Rattle.std.specs.Fmt.{decimal}
use Rattle.hex.specs.Hex.{encode_lower}
use Rattle.mm_label.specs.Text.{text_of}
use Rattle.mm_tree.specs.declared.refusal.Refusal.{Refusal}
use Rattle.mm_tree.specs.declared.hit.Hit.{Hit}
use Rattle.mm_tree.specs.Refusals.{number_of, word_of}
use Rattle.mm_tree.specs.Trees.{Tree, one, nodes, preorder}
use Rattle.mm_tree.specs.Numbering.{Labelled, node_of}
use Rattle.mm_tree.specs.Fragments.{Named, fragment_tree}
use Rattle.mm_xml.specs.Writing.{written, without_labels}
use Rattle.mm_check.specs.declared.verdict.Verdict.{Verdict}
use Rattle.mm_check.specs.declared.verdict.Verdict.TheVariants as verdict
use Rattle.mm_command.specs.declared.reply.Reply.{Reply}
use Rattle.mm_command.specs.declared.reply.Reply.TheVariants as reply

-- `no`, the number and the word of a refusal
abbrev pub refused_text : Refusal → List ℕ
refused_text r = codes "no " ++ (decimal (number_of r) ++ 32 ∷ (word_of r ++ 10 ∷ []))

-- `ok`, a label and a number of nodes
abbrev pub done_text : List ℤ → ℕ → List ℕ
done_text label count = codes "ok " ++ (text_of label ++ 32 ∷ (decimal count ++ 10 ∷ []))

-- a number, as far as 64 bits hold it
abbrev pub shown_count : ℕ → ℕ
shown_count n = min n (2 ^ 64 - 1)

-- `tree`, the node's label and the number of nodes, and a line with the XML of the node
abbrev pub tree_text : Tree Labelled → List ℕ
tree_text t =
    codes "tree " ++ (text_of t.0.label ++ 32 ∷ (decimal (shown_count (nodes (one t))) ++ 10 ∷ (written (without_labels (one t)) ++ 10 ∷ [])))

-- a label and a name
abbrev pub hit_line : Hit → List ℕ
hit_line hit = text_of hit.label ++ 32 ∷ (hit.name ++ 10 ∷ [])

-- `hits` and their number, and a line for each
abbrev pub hits_text : List Hit → List ℕ
hits_text hits = codes "hits " ++ (decimal (length hits) ++ 10 ∷ flat_map hit_line hits)

abbrev pub word_after_space : List ℕ → List ℕ
word_after_space w = 32 ∷ w

-- a node of a fragment: its label, its name, and the words of the query that it holds itself
abbrev pub shown_line : Named → List ℕ
shown_line e = text_of e.label ++ 32 ∷ (e.name ++ (flat_map word_after_space e.words ++ 10 ∷ []))

-- `fragment`, the label of its root and the number of its nodes
abbrev pub fragment_head : List ℤ → ℕ → List ℕ
fragment_head label count = codes "fragment " ++ (text_of label ++ 32 ∷ (decimal count ++ 10 ∷ []))

-- its head, and a line for each node in document order
abbrev pub fragment_text : Tree Named → List ℕ
fragment_text t = fragment_head t.0.label (shown_count (nodes (one t))) ++ flat_map shown_line (preorder (one t))

-- `fragments` and their number, and each of them
abbrev pub fragments_text : List (Tree Named) → List ℕ
fragments_text ts = codes "fragments " ++ (decimal (length ts) ++ 10 ∷ flat_map fragment_text ts)

-- `sound` and a number of nodes
abbrev pub sound_text : ℕ → List ℕ
sound_text count = codes "sound " ++ (decimal count ++ 10 ∷ [])

-- `unsound` and a key in lower-case hexadecimal
abbrev pub unsound_text : List ℕ → List ℕ
unsound_text key = codes "unsound " ++ (encode_lower key ++ 10 ∷ [])

abbrev pub verdict_text : Verdict → List ℕ
verdict_text (verdict.Sound count) = sound_text count
verdict_text (verdict.Unsound key stored due) = unsound_text key

abbrev pub reply_text : Reply → List ℕ
reply_text (reply.Done done) = done_text done.label done.nodes
reply_text (reply.Hits hits) = hits_text hits
reply_text (reply.Fragments fs) = fragments_text (map fragment_tree fs)
reply_text (reply.Tree n) = tree_text (node_of n)
reply_text (reply.Checked v) = verdict_text v
reply_text (reply.Refused r) = refused_text r

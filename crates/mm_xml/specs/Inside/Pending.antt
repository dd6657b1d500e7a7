-- What the writer has still to do.
use Rattle.std.specs.Prelude.{ℕ, ◌+◌, List, [], ◌∷◌, ◌++◌}
use Rattle.mm_tree.specs.declared.Node.{Node}
use Rattle.mm_tree.specs.Trees.{Trees, none, node}
use Rattle.mm_tree.specs.Numbering.{Labelled, forest_of}
use Rattle.mm_xml.specs.declared.writer.Task.{Task}
use Rattle.mm_xml.specs.declared.writer.Task.TheVariants as task
use Rattle.mm_xml.specs.declared.writer.Writer.{Writer}
use Rattle.mm_xml.specs.Writing.{end_tag, written, without_labels}

abbrev pub written_nodes : List Node → List ℕ
written_nodes nodes = written (without_labels (forest_of nodes))

abbrev pub written_task : Task → List ℕ
written_task (task.Siblings nodes) = written_nodes nodes.now
written_task (task.EndTag name) = end_tag name.now

-- the last task comes first
abbrev pub written_tasks : List Task → List ℕ
written_tasks [] = []
written_tasks (t ∷ ts) = written_tasks ts ++ written_task t

-- all that the writer has written when it is done
abbrev pub whole : Writer → List ℕ
whole w = w.out.items ++ written_tasks w.tasks.items

-- how many turns a task takes: two for each node at most, and one
abbrev pub turns_of_trees : Trees Labelled → ℕ
turns_of_trees none = 1
turns_of_trees (node e inner rest) = 2 + turns_of_trees inner + turns_of_trees rest

abbrev pub turns_of_task : Task → ℕ
turns_of_task (task.Siblings nodes) = turns_of_trees (forest_of nodes.now)
turns_of_task (task.EndTag name) = 1

abbrev pub turns_of : List Task → ℕ
turns_of [] = 0
turns_of (t ∷ ts) = turns_of_task t + turns_of ts

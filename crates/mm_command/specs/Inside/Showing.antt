-- What a fragment of the program shows of its root.
use Rattle.mm_tree.specs.declared.fragment.Fragment.{Fragment}
use Rattle.mm_tree.specs.declared.fragment.Fragment.TheViews.{out-Fragment}
use Rattle.mm_tree.specs.Fragments.{Named}

abbrev pub shown_of : Fragment → Named
shown_of f = record { label = (out-Fragment f).label; name = (out-Fragment f).name; words = (out-Fragment f).matches }

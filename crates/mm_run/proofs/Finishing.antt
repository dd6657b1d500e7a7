-- A command's reply, from what the store answers and the sink takes.
use Rattle.std.proofs.Common.{inl, inr, ⊎_elim, ◌≡◌, ℕ, ◌≤◌, Bool, true, false, List, [], ◌∷◌, length, take, Option, Some, None, Result, Ok, Err, IfErr, refl, ap, sym, subst, ◌∙◌, arith}
use Rattle.std.specs.Io.KnownBytes.{append_known}
use Rattle.mm_host.specs.Facts.Moments.{joined, weakened}
use Rattle.mm_host.specs.Moments.{LeavesOnly}
use Rattle.mm_host.specs.Moves.{WritesAll}
use Rattle.mm_host.specs.declared.failed.Failed.{Failed}
use Rattle.mm_host.specs.declared.damage.Damage.{Damage}
use Rattle.mm_host.specs.declared.damage.Fault.{Fault}
use Rattle.mm_host.specs.declared.damage.Fault.TheVariants as fault
use Rattle.mm_image.specs.Image.{image}
use Rattle.mm_image.specs.Subtrees.{IsUndamaged}
use Rattle.mm_keeper.specs.Entries.{Entries}
use Rattle.mm_keeper.specs.Keeping.{Keeps, Seen, spent_after}
use Rattle.mm_tree.specs.Numbering.{Labelled}
use Rattle.mm_tree.specs.Trees.{Trees}
use Rattle.mm_run.specs.Answers.{Answers}
use Rattle.mm_command.specs.Replies.{reply_text}
use Rattle.mm_command.specs.declared.reply.Reply.{Reply}
use Rattle.mm_run.specs.Inside.Carrying.{IsLeft, Stands, said}
use Rattle.mm_run.specs.Inside.Turning.{Finishes, GivesAnswer, IsAnswerFault, IsBroken, IsStoreFault, Tells, fault_in, status_at}
use Rattle.mm_run.specs.Statuses.{sink_faults_after, status_of}
use Rattle.mm_run.specs.Stores.{IsLeftBy, LeavesNow, Rests}
use Rattle.mm_run.specs.declared.command.Command.{Command}
use Rattle.mm_options.specs.declared.options.Options.{Options}
use Rattle.mm_run.specs.declared.status.Status.{Status}
use Rattle.mm_run.specs.declared.status.Status.TheVariants as status
use Rattle.mm_run.proofs.Carrying.{rests_along, stands_memory}
use Rattle.mm_run.proofs.Turns.{append_known-nil}

-- ---- statuses

pub sort_at : (f : Fault) → IsStoreFault (status_at f)
sort_at fault.DiskFault = tt
sort_at (fault.Damaged d) = tt
sort_at fault.Spent = tt
sort_at fault.Memory = tt

-- a store's fault: the sink wasn't called
pub sink-still : (s : Status) (n : ℕ) → IsStoreFault s → sink_faults_after s n ≡ n
sink-still status.SinkFault n is = absurd is
sink-still s n is = refl

pub store_answers : (s : Status) → IsStoreFault s → IsAnswerFault s
store_answers status.DiskFault is = tt
store_answers (status.Damaged d) is = tt
store_answers status.Memory is = tt
store_answers s is = absurd is

pub told_sort : (a b : Option (List ℕ)) (text : List ℕ) (s : Status) → Tells a b text (Err s) → IsAnswerFault s
told_sort a b text status.SinkFault told = tt
told_sort a b text status.Memory told = tt
told_sort a b text s told = absurd told

-- a store that isn't spent doesn't answer that it is
pub not_spent : (is_spent : Bool) (f : Fault) → is_spent ≡ false → (◌≡◌ {A = Option Fault} (Some f) (Some fault.Spent) → is_spent ≡ true) → f ≡ fault.Spent → ⊥
not_spent is_spent f unspent spent is = let e : is_spent ≡ true = spent (ap (λ g. Some g) is) in cc

broken_at : (f : Fault) → (f ≡ fault.Spent → ⊥) → IsUndamaged f → IsBroken (status_at f)
broken_at fault.DiskFault unspent sound = tt
broken_at (fault.Damaged d) unspent sound = absurd sound
broken_at fault.Spent unspent sound = absurd (unspent refl)
broken_at fault.Memory unspent sound = tt

pub broken_as : (s : Status) (f : Fault) → s ≡ status_at f → (f ≡ fault.Spent → ⊥) → IsUndamaged f → IsBroken s
broken_as s f same unspent sound = subst IsBroken (sym same) (broken_at f unspent sound)

-- a keeper with maps tells no damage
pub no_damage_told : (f : Fault) → ((d : Damage) → ◌≡◌ {A = Option Fault} (Some f) (Some (fault.Damaged d)) → ⊥) → IsUndamaged f
no_damage_told fault.DiskFault none = tt
no_damage_told (fault.Damaged d) none = none d refl
no_damage_told fault.Spent none = tt
no_damage_told fault.Memory none = tt

-- what the slice ends with, the sink isn't called by
pub sink-sliced : (r : Result (Unit {0}) Status) (n m : ℕ) → IfErr r IsStoreFault → m ≡ n → m ≡ sink_faults_after (status_of r) n
sink-sliced (Ok u) n m is same = same
sink-sliced (Err s) n m is same = same ∙ sym (sink-still s n is)

pub store_answers_if : (r : Result (Unit {0}) Status) → IfErr r IsStoreFault → IfErr r IsAnswerFault
store_answers_if (Ok u) is = tt
store_answers_if (Err s) is = store_answers s is

module _ {K D : Type 0} (over : K → D) (has_maps : K → Type 0) (is_spent : K → Bool) (faults : K → ℕ) where
  abbrev Over : K → K → Option Fault → Type 0
  Over = Stands over has_maps is_spent faults

  stands_no_fault : (old new : K) (f : Fault) → Over old new (Some f) → Over old new (Some fault.Memory)
  stands_no_fault old new f h = record {
    device = h.device;
    maps = h.maps;
    faults_later = h.faults_later;
    disk_fault = λ e. absurd cc;
    spent = λ e. absurd cc;
    unspent = λ e u. absurd cc;
  }

  -- one call of the keeper
  pub stands_keeps : (is_sound : K → Type 0) (wants : K → ℕ) (by_memory : Bool) (old new : K) (answer : Option Fault) → Keeps over has_maps is_sound is_spent faults wants by_memory old new answer → Over old new answer
  stands_keeps is_sound wants by_memory old new answer keeps = record {
    device = keeps.device;
    maps = keeps.maps;
    faults_later = keeps.faults_later;
    disk_fault = keeps.disk_fault;
    spent = keeps.spent.0;
    unspent = λ e u. keeps.then_spent ∙ ap (spent_after by_memory (is_spent old)) e ∙ u;
  }

  stands_at : (old new : K) (f : Fault) → (f ≡ fault.Spent → ⊥) → Over old new (Some f) → Over old new (fault_in (status_at f))
  stands_at old new fault.DiskFault unspent h = h
  stands_at old new (fault.Damaged d) unspent h = stands_no_fault old new (fault.Damaged d) h
  stands_at old new fault.Spent unspent h = absurd (unspent refl)
  stands_at old new fault.Memory unspent h = h

  -- a store's fault as the status of the run
  pub stands_as : (old new : K) (s : Status) (f : Fault) → s ≡ status_at f → (f ≡ fault.Spent → ⊥) → Over old new (Some f) → Over old new (fault_in s)
  stands_as old new s f same unspent h = subst (λ (t : Status). Over old new (fault_in t)) (sym same) (stands_at old new f unspent h)

  -- the sink's fault is none of the store's
  pub stands_told : (k : K) (a b : Option (List ℕ)) (text : List ℕ) (s : Status) → Tells a b text (Err s) → Over k k (fault_in s)
  stands_told k a b text status.SinkFault told = stands_memory over has_maps is_spent faults k
  stands_told k a b text status.Memory told = stands_memory over has_maps is_spent faults k
  stands_told k a b text s told = absurd told

-- ---- replies

module _ {K S : Type 0} (has_maps : K → Type 0) (seen : K → Seen S) (moment : K → ℕ) (left_since : K → ℕ → Option Entries → Type 0) (options : Options) (command : Command)
    (forest : Trees Labelled) (a b : Option (List ℕ)) where
  abbrev Gives : K → Result (Unit {0}) Status → Type 0
  Gives keeper result = GivesAnswer has_maps seen moment left_since options command a b forest keeper result

  broke : (f : Fault) (keeper : K) → (f ≡ fault.Spent → ⊥) → IsUndamaged f → b ≡ a → Gives keeper (Err (status_at f))
  broke fault.DiskFault keeper unspent sound same = inl same
  broke (fault.Damaged d) keeper unspent sound same = absurd sound
  broke fault.Spent keeper unspent sound same = absurd (unspent refl)
  broke fault.Memory keeper unspent sound same = inl same

  -- the store broke off
  pub broke_as : (s : Status) (f : Fault) (keeper : K) → s ≡ status_at f → (f ≡ fault.Spent → ⊥) → IsUndamaged f → b ≡ a → Gives keeper (Err s)
  broke_as s f keeper is unspent sound same = subst (λ (t : Status). Gives keeper (Err t)) (sym is) (broke f keeper unspent sound same)

  -- the store answered, and the reply was written as far as that came
  pub finished : (result : Result (Unit {0}) Status) (text : List ℕ) (later : Trees Labelled) (mid new : K) → Answers options forest command text later → Rests has_maps seen mid later
      → (has_maps mid → has_maps new) → (has_maps mid → seen new ≡ seen mid) → LeavesNow moment left_since new later → Finishes a b text result → Gives new result
  finished (Ok u) text later mid new answers rests maps same now told = (text, later, answers, told, rests_along has_maps seen mid new later rests maps same)
  finished (Err status.SinkFault) text later mid new answers rests maps same now told =
      (text, later, answers, told.0, told.1, told.2, rests_along has_maps seen mid new later rests maps same)
  finished (Err status.Memory) text later mid new answers rests maps same now told = ⊎_elim (λ h. inl h) (λ h. inr (text, later, answers, h, now)) told
  finished (Err status.DiskFault) text later mid new answers rests maps same now told = ⊎_elim (λ h. inl h) (λ h. inr (text, later, answers, h, now)) told
  finished (Err s) text later mid new answers rests maps same now told = absurd told

-- what was told, and then the work that follows
pub told_slice : (a b : Option (List ℕ)) (text : List ℕ) (result : Result (Unit {0}) Status) → b ≡ append_known a text → IfErr result IsBroken → Finishes a b text result
told_slice a b text (Ok u) told broken = told
told_slice a b text (Err status.Memory) told broken = inr told
told_slice a b text (Err status.DiskFault) told broken = inr told
told_slice a b text (Err s) told broken = absurd broken

pub told_only : (a b : Option (List ℕ)) (text : List ℕ) (s : Status) → Tells a b text (Err s) → Finishes a b text (Err s)
told_only a b text status.SinkFault told = told
told_only a b text status.Memory told = inl told
told_only a b text s told = absurd told

module _ {K : Type 0} (moment : K → ℕ) (left_since : K → ℕ → Option Entries → Type 0) where
  -- what was kept is the forest's image
  pub moment_kept : (old new : K) (kept : Entries) (f : Trees Labelled) → kept ≡ image f → LeavesOnly moment left_since old new (λ m. m ≡ Some kept) → LeavesOnly moment left_since old new (λ m. m ≡ Some (image f))
  moment_kept old new kept f same h = weakened moment left_since old new (λ m. m ≡ Some kept) (λ m. m ≡ Some (image f)) h (λ m e. e ∙ ap Some same)

  -- what a crash leaves at the end
  pub leaves_now : (mid new : K) (later : Trees Labelled) → ((t : ℕ) (m : Option Entries) → t ≤ moment new → left_since new (moment new) m → left_since new t m)
      → LeavesOnly moment left_since mid new (λ m. m ≡ Some (image later)) → LeavesNow moment left_since new later
  leaves_now mid new later counts h m left = h.each m (counts (moment mid) m h.later left)

module _ {K : Type 0} (moment : K → ℕ) (left_since : K → ℕ → Option Entries → Type 0) (options : Options) (command : Command) (forest : Trees Labelled) where
  -- a crash since before the command
  pub moment_finished : (old mid new : K) (text : List ℕ) (later : Trees Labelled) → Answers options forest command text later
      → LeavesOnly moment left_since old mid (IsLeft (Answers options forest command) forest) → LeavesOnly moment left_since mid new (λ m. m ≡ Some (image later))
      → LeavesOnly moment left_since old new (IsLeft (Answers options forest command) forest)
  moment_finished old mid new text later answers first second =
      joined moment left_since old mid new (IsLeft (Answers options forest command) forest) (λ m. m ≡ Some (image later)) first second (λ m e. inr (text, later, answers, e))

  -- the command that a crash may have left done is the first
  pub moment_of_next : (old new : K) (cs : List Command) → ((others : List Command) × (cs ≡ command ∷ others)) → LeavesOnly moment left_since old new (IsLeft (Answers options forest command) forest)
      → LeavesOnly moment left_since old new (IsLeftBy options forest cs)
  moment_of_next old new cs next h = subst (λ (l : List Command). LeavesOnly moment left_since old new (IsLeftBy options forest l)) (sym next.1) h

-- the forest is one that the first of any commands may leave
pub left_before : (options : Options) (forest : Trees Labelled) (cs : List Command) → IsLeftBy options forest cs (Some (image forest))
left_before options forest [] = refl
left_before options forest (command ∷ commands) = inl refl

-- what is told of a reply, from what the sink took
pub told_all : (a b : Option (List ℕ)) (piece text : List ℕ) (u : Unit {0}) → piece ≡ text → WritesAll {E = Failed} a b (Ok u) piece → Tells a b text (Ok u)
told_all a b piece text u same wrote = wrote.all ∙ ap (append_known a) same

pub told_front : (a b : Option (List ℕ)) (piece text : List ℕ) (e : Failed) → piece ≡ text → WritesAll a b (Err e) piece → Tells a b text (Err status.SinkFault)
told_front a b piece text e same wrote = (
  wrote.all.0,
  omega (arith, wrote.all.1, ap length same),
  wrote.all.2 ∙ ap (λ l. append_known a (take wrote.all.0 l)) same,
)

-- the text of a reply that there is
pub said_some : (a b : Option (List ℕ)) (r : Option Reply) (reply : Reply) (result : Result (Unit {0}) Status) → r ≡ Some reply → Finishes a b (reply_text reply) result → Finishes a b (said r) result
said_some a b r reply result is h = subst (λ (o : Option Reply). Finishes a b (said o) result) (sym is) h

-- and of none
pub said_none : (a : Option (List ℕ)) (r : Option Reply) (u : Unit {0}) → r ≡ None → Finishes a a (said r) (Ok u)
said_none a r u is = subst (λ (o : Option Reply). Finishes a a (said o) (Ok u)) (sym is) (sym (append_known-nil a))

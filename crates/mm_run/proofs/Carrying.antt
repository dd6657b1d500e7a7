-- What a command does to a store's keeper, from what the store's calls do.
use Rattle.std.proofs.Common.{inl, inr, ⊎_elim, ◌≡◌, ℕ, ◌≤◌, Bool, true, false, List, Option, Some, None, Result, Ok, Err, IfOk, IfErr, refl, ap, sym, subst, ◌∙◌, arith}
use Rattle.std.specs.Prelude.{◌↔◌}
use Rattle.std.specs.Result.{IsErrAnd}
use Rattle.mm_command.specs.Replies.{reply_text}
use Rattle.mm_command.specs.declared.reply.Reply.{Reply}
use Rattle.mm_host.specs.Causes.{Rose}
use Rattle.mm_host.specs.Facts.Moments.{as_before_only, started, weakened}
use Rattle.mm_host.specs.Moments.{LeavesAsBefore, LeavesOnly}
use Rattle.mm_host.specs.declared.damage.Fault.{Fault}
use Rattle.mm_host.specs.declared.damage.Fault.TheVariants as fault
use Rattle.mm_image.specs.Ground.{Accounts}
use Rattle.mm_image.specs.Image.{image}
use Rattle.mm_image.specs.Subtrees.{IsUndamaged}
use Rattle.mm_keeper.specs.Entries.{Entries}
use Rattle.mm_keeper.specs.Keeping.{Seen, fault_of, spent_after}
use Rattle.mm_lists.specs.Causes.{Caused, CauseOf, IsSound}
use Rattle.mm_store.specs.Applying.{Performs}
use Rattle.mm_tree.specs.Numbering.{Labelled}
use Rattle.mm_tree.specs.Trees.{Trees}
use Rattle.mm_run.specs.Inside.Carrying.{Carried, IsLeft, Stands, Takes, said, told}
use Rattle.mm_run.specs.Stores.{Rests}

-- ---- what stands whatever is answered

false_true : false ≡ true → ⊥
false_true e = cc

not_true : (a b : Bool) → (b ≡ true → a ≡ true) → a ≡ false → b ≡ false
not_true a true f e = absurd (false_true (sym e ∙ f refl))
not_true a false f e = refl

disk_cause : (before now : ℕ) (was : Bool) (e : Fault) → ◌≡◌ {A = Option Fault} (Some e) (Some fault.DiskFault) → CauseOf before now was e → Rose before now
disk_cause before now was fault.DiskFault h c = c
disk_cause before now was (fault.Damaged d) h c = absurd cc
disk_cause before now was fault.Spent h c = absurd cc
disk_cause before now was fault.Memory h c = absurd cc

spent_cause : (before now : ℕ) (was : Bool) (e : Fault) → ◌≡◌ {A = Option Fault} (Some e) (Some fault.Spent) → CauseOf before now was e → was ≡ true
spent_cause before now was fault.DiskFault h c = absurd cc
spent_cause before now was (fault.Damaged d) h c = absurd cc
spent_cause before now was fault.Spent h c = c
spent_cause before now was fault.Memory h c = absurd cc

rose_later : (a b c : ℕ) → a ≤ b → Rose b c → Rose a c
rose_later a b c h r = omega (arith, h, r)

spent_before : (a b : Bool) → (a ≡ false → b ≡ false) → b ≡ true → a ≡ true
spent_before true b keeps spent = refl
spent_before false b keeps spent = absurd (false_true (sym (keeps refl) ∙ spent))

module _ {K D : Type 0} (over : K → D) (has_maps : K → Type 0) (is_spent : K → Bool) (faults : K → ℕ) where
  abbrev Over : K → K → Option Fault → Type 0
  Over = Stands over has_maps is_spent faults

  -- nothing was called
  pub stands_still : (k : K) (answer : Option Fault) → (answer ≡ Some fault.DiskFault → ⊥) → (answer ≡ Some fault.Spent → ⊥) → Over k k answer
  stands_still k answer disk spent = record {
    device = refl;
    maps = (λ h. h, λ h. h);
    faults_later = omega arith;
    disk_fault = λ e. absurd (disk e);
    spent = λ e. absurd (spent e);
    unspent = λ e u. u;
  }

  pub stands_answered : {X : Type 0} (k : K) (x : X) → Over k k (fault_of (Ok x))
  stands_answered k x = stands_still k None (λ e. absurd cc) (λ e. absurd cc)

  pub stands_memory : (k : K) → Over k k (Some fault.Memory)
  stands_memory k = stands_still k (Some fault.Memory) (λ e. absurd cc) (λ e. absurd cc)

  pub stands_along : (old mid new : K) (answer : Option Fault) → Over old mid None → Over mid new answer → Over old new answer
  stands_along old mid new answer first second = record {
    device = second.device ∙ first.device;
    maps = (λ h. second.maps.0 (first.maps.0 h), λ h. first.maps.1 (second.maps.1 h));
    faults_later = omega (arith, first.faults_later, second.faults_later);
    disk_fault = λ e. rose_later (faults old) (faults mid) (faults new) first.faults_later (second.disk_fault e);
    spent = λ e. spent_before (is_spent old) (is_spent mid) (first.unspent refl) (second.spent e);
    unspent = λ e u. second.unspent e (first.unspent refl u);
  }

  pub stands_performs : (is_sound : K → Type 0) (wants : K → ℕ) (old new : K) (answer : Option Fault) → Performs over has_maps is_sound is_spent faults wants old new answer → Over old new answer
  stands_performs is_sound wants old new answer p = record {
    device = p.device;
    maps = p.maps;
    faults_later = p.faults_later;
    disk_fault = p.disk_fault;
    spent = p.spent;
    unspent = λ e u. ⊎_elim
        (λ h. h ∙ ap (spent_after false (is_spent old)) e ∙ u)
        (λ h. h ∙ ap (spent_after true (is_spent old)) e ∙ u)
        p.then_spent;
  }

  pub stands_accounts : (is_sound : K → Type 0) (wants : K → ℕ) (old new : K) (answer : Option Fault) → over new ≡ over old → has_maps old ↔ has_maps new
      → Accounts is_sound is_spent faults wants old new answer → Over old new answer
  stands_accounts is_sound wants old new answer device maps p = record {
    device = device;
    maps = maps;
    faults_later = p.faults_later;
    disk_fault = p.disk_fault;
    spent = p.spent;
    unspent = λ e u. p.then_spent ∙ ap (spent_after false (is_spent old)) e ∙ u;
  }

  pub stands_caused : {X : Type 0} (old new : K) (result : Result X Fault) → over new ≡ over old → has_maps old ↔ has_maps new
      → Caused (faults old) (faults new) (is_spent old) (is_spent new) result → Over old new (fault_of result)
  stands_caused old new (Ok x) device maps p = record {
    device = device;
    maps = maps;
    faults_later = p.later;
    disk_fault = λ e. absurd cc;
    spent = λ e. absurd cc;
    unspent = λ e u. not_true (is_spent old) (is_spent new) p.ok u;
  }
  stands_caused old new (Err e) device maps p = record {
    device = device;
    maps = maps;
    faults_later = p.later;
    disk_fault = λ h. disk_cause (faults old) (faults new) (is_spent old) e h p.err;
    spent = λ h. spent_cause (faults old) (faults new) (is_spent old) e h p.err;
    unspent = λ h u. absurd cc;
  }

-- ---- what a keeper holds, and what a crash leaves

module _ {K S : Type 0} (has_maps : K → Type 0) (seen : K → Seen S) where
  pub rests_along : (old new : K) (f : Trees Labelled) → Rests has_maps seen old f → (has_maps old → has_maps new) → (has_maps old → seen new ≡ seen old) → Rests has_maps seen new f
  rests_along old new f r maps same = ((maps r.0.0, r.0.1, ap (λ z. z.now) (same r.0.0) ∙ r.0.2), ap (λ z. z.kept) (same r.0.0) ∙ r.1)

module _ {K S : Type 0} (has_maps is_sound : K → Type 0) (seen : K → Seen S) (is_spent : K → Bool) (moment : K → ℕ) (left_since : K → ℕ → Option Entries → Type 0) where
  abbrev pub OnlyKept : Type 0
  OnlyKept = (k : K) (m : Option Entries) → has_maps k → is_sound k → is_spent k ≡ false → left_since k (moment k) m → m ≡ Some (seen k).kept

  module _ (only : OnlyKept) where
    kept_only : (k : K) (f : Trees Labelled) (P : Option Entries → Type 0) → Rests has_maps seen k f → is_sound k → is_spent k ≡ false → P (Some (image f)) → (m : Option Entries) → left_since k (moment k) m → P m
    kept_only k f P r sound unspent p m left = subst P (sym (only k m r.0.0 sound unspent left ∙ ap Some r.1)) p

    pub moment_still : (k : K) (f : Trees Labelled) (P : Option Entries → Type 0) → Rests has_maps seen k f → is_sound k → is_spent k ≡ false → P (Some (image f)) → LeavesOnly moment left_since k k P
    moment_still k f P r sound unspent p = started moment left_since k P (kept_only k f P r sound unspent p)

    pub moment_along : (old new : K) (f : Trees Labelled) (P : Option Entries → Type 0) → Rests has_maps seen old f → is_sound old → is_spent old ≡ false → P (Some (image f))
        → LeavesAsBefore moment left_since old new → LeavesOnly moment left_since old new P
    moment_along old new f P r sound unspent p as_before = as_before_only moment left_since old new P (kept_only old f P r sound unspent p) as_before

    module _ {X : Type 0} (text : X → List ℕ) where
      abbrev Carries : (List ℕ → Trees Labelled → Type 0) → (ℕ → Type 0) → Trees Labelled → K → K → ℕ → ℕ → Result X Fault → Type 0
      Carries = Carried has_maps seen is_spent moment left_since text

      with_rest : (P : List ℕ → Trees Labelled → Type 0) (f : Trees Labelled) (new : K) (r : Result X Fault) → IfOk r (λ x. P (text x) f) → Rests has_maps seen new f
          → IfOk r (λ x. (later : Trees Labelled) × P (text x) later × Rests has_maps seen new later)
      with_rest P f new (Ok x) p rests = (f, p, rests)
      with_rest P f new (Err e) p rests = tt

      -- nothing was called
      pub carried_still : (P : List ℕ → Trees Labelled → Type 0) (A : ℕ → Type 0) (f : Trees Labelled) (k : K) (n : ℕ) (r : Result X Fault) → is_sound k → Rests has_maps seen k f
          → IfOk r (λ x. P (text x) f) → IfErr r IsUndamaged → A 0 → Carries P A f k k n n r
      carried_still P A f k n r sound rests p undamaged none = record {
        answered = with_rest P f k r p rests;
        undamaged = undamaged;
        any_moment = λ unspent. moment_still k f (IsLeft P f) rests sound unspent (inl refl);
        steps = (0, none, omega arith);
      }

      -- the forest was read
      pub carried_read : (P : List ℕ → Trees Labelled → Type 0) (A : ℕ → Type 0) (f : Trees Labelled) (old new : K) (n m : ℕ) (r : Result X Fault) → is_sound old → Rests has_maps seen old f
          → (has_maps old → has_maps new) → (has_maps old → seen new ≡ seen old) → (has_maps old → LeavesAsBefore moment left_since old new)
          → IfOk r (λ x. P (text x) f) → IfErr r IsUndamaged → Takes A n m → Carries P A f old new n m r
      carried_read P A f old new n m r sound rests maps same as_before p undamaged takes = record {
        answered = with_rest P f new r p (rests_along has_maps seen old new f rests maps same);
        undamaged = undamaged;
        any_moment = λ unspent. moment_along old new f (IsLeft P f) rests sound unspent (inl refl) (as_before rests.0.0);
        steps = takes;
      }

  module _ {X : Type 0} (text : X → List ℕ) where
    more_said : (P Q : List ℕ → Trees Labelled → Type 0) (new : K) (r : Result X Fault) → ((reply : List ℕ) (later : Trees Labelled) → P reply later → Q reply later)
        → IfOk r (λ x. (later : Trees Labelled) × P (text x) later × Rests has_maps seen new later) → IfOk r (λ x. (later : Trees Labelled) × Q (text x) later × Rests has_maps seen new later)
    more_said P Q new (Ok x) more h = (h.0, more (text x) h.0 h.1, h.2)
    more_said P Q new (Err e) more h = tt

    -- less is said of what was answered
    pub carried_as : (P Q : List ℕ → Trees Labelled → Type 0) (A B : ℕ → Type 0) (f : Trees Labelled) (old new : K) (n m : ℕ) (r : Result X Fault)
        → ((reply : List ℕ) (later : Trees Labelled) → P reply later → Q reply later) → ((k : ℕ) → A k → B k)
        → Carried has_maps seen is_spent moment left_since text P A f old new n m r → Carried has_maps seen is_spent moment left_since text Q B f old new n m r
    carried_as P Q A B f old new n m r more allowed h = record {
      answered = more_said P Q new r more h.answered;
      undamaged = h.undamaged;
      any_moment = λ unspent. weakened moment left_since old new (IsLeft P f) (IsLeft Q f) (h.any_moment unspent) (λ i left. elim left [
        | inl e ↦ inl e
        | inr e ↦ inr (e.0, e.1, more e.0 e.1 e.2, e.3)
      ]);
      steps = (h.steps.0, allowed h.steps.0 h.steps.1, h.steps.2);
    }

  -- a reply that is written
  pub carried_told : (P : List ℕ → Trees Labelled → Type 0) (A : ℕ → Type 0) (f : Trees Labelled) (old new : K) (n m : ℕ) (r : Result Reply Fault) (s : Result (Option Reply) Fault) → s ≡ told r
      → Carried has_maps seen is_spent moment left_since reply_text P A f old new n m r → Carried has_maps seen is_spent moment left_since said P A f old new n m s
  carried_told P A f old new n m (Ok x) s e h = rw e (record { answered = h.answered; undamaged = tt; any_moment = h.any_moment; steps = h.steps })
  carried_told P A f old new n m (Err x) s e h = rw e (record { answered = tt; undamaged = h.undamaged; any_moment = h.any_moment; steps = h.steps })

pub undamaged_of : (e : Fault) → IsSound e → IsUndamaged e
undamaged_of fault.DiskFault s = tt
undamaged_of (fault.Damaged d) s = absurd s
undamaged_of fault.Spent s = tt
undamaged_of fault.Memory s = tt

-- ---- what `?` hands on

pub not_answered : {X E : Type 0} (r : Result X E) (P : X → Type 0) (Q : E → Type 0) → IsErrAnd r Q → IfOk r P
not_answered (Ok x) P Q h = absurd h
not_answered (Err e) P Q h = tt

pub handed_on : {X : Type 0} (r : Result X Fault) (e : Fault) → IsUndamaged e → IsErrAnd r (λ x. x ≡ e) → IfErr r IsUndamaged
handed_on (Ok x) e fine h = absurd h
handed_on (Err x) e fine h = subst IsUndamaged (sym h) fine

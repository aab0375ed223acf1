-- What holds of every recording that the commands end in, by one induction on the turns. Assumes nothing.
use mathlib.Core.Path.{◌≡◌, refl, sym, ap, ◌∙◌}
use mathlib.Core.List.{List, [], ◌∷◌, ◌++◌}
use Prim.Native.Nat.{ℕ, zero, suc, ◌+◌, ◌≤◌, ◌<◌}
use native.Mathlib.Omega.{arith}
use lib.ListN.{length, length-append}
use Rattle.model.specs.declared.Refusal.{Refusal}
use Rattle.std.specs.Prelude.{Result, Ok, Err}
use Rattle.commands.specs.declared.Item.{Item}
use Rattle.commands.specs.declared.Item.TheVariants.{Link, Pick, End}
use Rattle.commands.specs.Causes.{next, head_at}
use Rattle.recording.specs.Format.{Content, ended, refused, follow, commands, body, after_head, recording_at}
use Rattle.model.specs.Recording.{Clean, Recording}
use Rattle.model.proofs.Windows.{rec_append}
use Rattle.lists.specs.Tab.{zeros}
use Rattle.links.proofs.Bits.{zeros-clean}
use Rattle.commands.proofs.Admit.{linkable, next-link, next_pick, next_end, Headed, headed}
use Rattle.recording.proofs.Bits.{clean_flip}

-- the state on the way
record Good (bytes : List ℕ) (n limit start at : ℕ) (picks : List (List ℕ)) (links : List ℕ) : Type 0 where
  on : start ≤ at
  few : length picks ≤ limit
  clean : Recording n picks
  now : Clean n links

-- a recording over n boards, read from a place of the file
pub record SoundReading (bytes : List ℕ) (n limit start m : ℕ) (picks : List (List ℕ)) (end : ℕ) : Type 0 where
  pub boards : m ≡ n
  pub few : length picks ≤ limit
  pub clean : Recording n picks
  pub after : start < end
  pub inside : end ≤ length bytes

abbrev Lawful : List ℕ → ℕ → ℕ → ℕ → Content → Type 0
Lawful bytes n limit start (ended m picks end) = SoundReading bytes n limit start m picks end
Lawful bytes n limit start (refused r) = Unit

module _ (bytes : List ℕ) (n limit start : ℕ) where
  lawful_step : (more : ℕ → List (List ℕ) → List ℕ → Content)
      → ((at : ℕ) (picks : List (List ℕ)) (links : List ℕ) → Good bytes n limit start at picks links
      → Lawful bytes n limit start (more at picks links))
      → (at : ℕ) (picks : List (List ℕ)) (links : List ℕ) (x : Result Item Refusal) → next bytes n limit at (length picks) links ≡ x
      → Good bytes n limit start at picks links → Lawful bytes n limit start (follow more n at picks links x)
  lawful_step more ih at picks links (Ok (Link a b v)) e g =
      let l = next-link bytes n limit at (length picks) links a b v e in
      ih (at + 3) picks _
      record { on = omega (arith, g.on); few = g.few; clean = g.clean; now = clean_flip n links a.0 b.0 g.now (linkable n a.0 b.0 l.able) }
  lawful_step more ih at picks links (Ok Pick) e g =
      let h = next_pick bytes n limit at (length picks) links e in
      ih (at + 1) (picks ++ (links ∷ [])) links
      record {
        on = omega (arith, g.on);
        few = rw length-append (omega arith);
        clean = rec_append n picks (links ∷ []) g.clean
            (g.now, tt);
        now = g.now;
      }
  lawful_step more ih at picks links (Ok End) e g =
      let h = next_end bytes n limit at (length picks) links e in
      record { boards = refl; few = g.few; clean = g.clean; after = omega (arith, g.on); inside = omega arith }
  lawful_step more ih at picks links (Err r) e g = tt

  lawful : (turns at : ℕ) (picks : List (List ℕ)) (links : List ℕ) → Good bytes n limit start at picks links
      → Lawful bytes n limit start (commands bytes n limit turns at picks links)
  unfolding commands
  lawful zero at picks links g = tt
  lawful (suc turns) at picks links g = lawful_step (commands bytes n limit turns) (lawful turns) at picks links _ refl g

  body_lawful : Lawful bytes n limit start (body limit bytes start n)
  body_lawful = lawful (length bytes) (start + 2) [] (zeros n) record { on = omega arith; few = omega arith; clean = tt; now = zeros-clean n }

-- ---- what an ended reading says

pub record EndedReading (limit room : ℕ) (bytes : List ℕ) (start n : ℕ) (picks : List (List ℕ)) (end : ℕ) : Type 0 where
  pub head : Headed limit room bytes start n
  pub whole : body limit bytes start n ≡ ended n picks end
  pub sound : SoundReading bytes n limit start n picks end

module _ (limit room : ℕ) (bytes : List ℕ) (start n : ℕ) (picks : List (List ℕ)) (end : ℕ) where
  by_body : (m : ℕ) → Headed limit room bytes start m → (o : Content) → body limit bytes start m ≡ o → Lawful bytes m limit start o
      → o ≡ ended n picks end → EndedReading limit room bytes start n picks end
  by_body m h (ended k ps e) q l i =
      let b = l.boards in
      let en : m ≡ n = cc in
      let ep : ps ≡ picks = cc in
      let ee : e ≡ end = cc in
      rw (sym en, sym ep, sym ee)
      record {
        head = h;
        whole = q ∙ ap (λ (x : ℕ). ended x ps e) b;
        sound = record { boards = refl; few = l.few; clean = l.clean; after = l.after; inside = l.inside };
      }
  by_body m h (refused r) q l i = absurd cc

  by_head : (x : Result ℕ Refusal) → head_at limit room bytes start ≡ x → after_head limit bytes start x ≡ ended n picks end
      → EndedReading limit room bytes start n picks end
  by_head (Ok m) q i = by_body m (headed limit room bytes start m q) _ refl (body_lawful bytes m limit start) i
  by_head (Err r) q i = absurd cc

  pub ended_reading : recording_at limit room bytes start ≡ ended n picks end → EndedReading limit room bytes start n picks end
  unfolding recording_at
  ended_reading i = by_head _ refl i

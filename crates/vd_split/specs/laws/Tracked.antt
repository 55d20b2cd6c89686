-- Lemmas: a port onto words that tracks the driver's view through its first 64 accesses, and allows there what is next in that view alone.
use Rattle.std.proofs.Common.{◌≡◌, ◌+◌, ◌<◌, ◌≤◌, ℕ, false, List, [], ◌∷◌, ◌++◌, length, refl, sym, ap, ◌∙◌, subst, Some, None, replicate, rules}
use Rattle.std.proofs.Math.Decide.{dec_lt}
use Rattle.vd_model.specs.declared.chain.Piece.{Piece}
use Rattle.vd_model.specs.Chains.{IsChain, total}
use Rattle.vd_words.specs.declared.access.Access.{Access}
use Rattle.vd_words.specs.declared.access.Op.{Op}
use Rattle.vd_words.specs.Model.{PortModel}
use Rattle.vd_words.specs.Own.{IsOwn, own_by}
use Rattle.vd_words.specs.Step.{written, answered}
use Rattle.vd_ring.specs.declared.driver.DriverView.{DriverView}
use Rattle.vd_split_ring.specs.SplitDriver.{driver_after, driver_side}
use Rattle.vd_split_ring.specs.SplitRing.{Ring}
use Rattle.vd_layout.specs.Layout.{CanMake, IsMadeWith}
use Rattle.vd_layout.specs.Driver.{MayOffer}
use Rattle.vd_split.specs.DriverEnd.{split_driver}
use Rattle.vd_split.specs.laws.SplitLayout.{split_layout, split_laws}
use Rattle.vd_split.specs.Tracked.{Logged, seen_by, plain_features, start_frame, start_driver, start_device, tracked, MayTrack, TrackMoves, Tracks}

seen_push : (v : DriverView) (es : List Logged) (e : Op × Access × ℕ)
    → seen_by v (es ++ Some e ∷ []) ≡ driver_after (seen_by v es) e.0 e.1 e.2
seen_push v [] e = refl
seen_push v (None ∷ es) e = seen_push v es e
seen_push v (Some d ∷ es) e = seen_push (driver_after v d.0 d.1 d.2) es e

tracks_after : (n n' : ℕ) (ws ws' : List ℕ) (log log' : List Logged) (op : Op) (a : Access) (r : ℕ) (v : DriverView) → Tracks n ws log v
    → Ring (written ws a) (driver_after v op a (answered ws a)) (start_device n) → TrackMoves n n' ws ws' log log' op a r
    → Tracks n' ws' log' (driver_after v op a r)
tracks_after n n' ws ws' log log' op a r v h kept m = (
  subst (λ (k : ℕ). Ring ws' (driver_after v op a r) (start_device k)) (sym m.size)
      (subst (λ (us : List ℕ). Ring us (driver_after v op a r) (start_device n)) (sym m.words)
      (subst (λ (x : ℕ). Ring (written ws a) (driver_after v op a x) (start_device n)) (sym m.answer) kept)),
  λ small. elim (dec_lt (length log) 64) [
    | yes s ↦ ap (λ (u : DriverView). driver_after u op a r) (h.1 s) ∙ sym (seen_push (start_driver n) log (op, a, r))
        ∙ ap (λ (es : List Logged). tracked n es) (sym (m.logged s)) ∙ ap (λ k. tracked k log') (sym m.size)
    | no s ↦ absurd (s (subst (λ (es : List Logged). length es < 64) (m.full s) small))
  ],
)

-- such a port is the driver's own
pub own_tracked : {P : Type 0} (port : PortModel P) (size : P → ℕ) (words : P → List ℕ) (log : P → List Logged)
    → ((p : P) (op : Op) (a : Access) → MayTrack (size p) (words p) (log p) op a → port.allows p op a)
    → ((p q : P) (op : Op) (a : Access) (r : ℕ) → port.moves p op a r q
    → TrackMoves (size p) (size q) (words p) (words q) (log p) (log q) op a r) → (p : P) (v : DriverView)
    → Tracks (size p) (words p) (log p) v → IsOwn port driver_side p v
own_tracked port size words log may does = own_by port driver_side (λ p v. Tracks (size p) (words p) (log p) v) (λ p v op a h next.
    let k = split_laws.driver_keeps (words p) v (start_device (size p)) op a h.0 next in (
      may p op a (k.inside, λ small. subst (λ (u : DriverView). driver_side.next u op a) (h.1 small) next),
      λ r q moved.
          let m = does p q op a r moved in (
            subst (λ (x : ℕ). driver_side.tells v op a x) (sym m.answer) k.told,
            tracks_after (size p) (size q) (words p) (words q) (log p) (log q) op a r v h k.keeps m,
          ),
    ))

pub made : (n : ℕ) → IsMadeWith split_layout n plain_features false (start_frame n)
made n = record { packed = refl; size = refl; features = refl; control = refl }

-- at the start
pub tracks_start : (n : ℕ) (ws : List ℕ) (log : List Logged) → CanMake split_layout n plain_features
    → ws ≡ replicate (split_layout.width (start_frame n)) 0 → log ≡ [] → Tracks n ws log (start_driver n)
tracks_start n ws log can zeros none = (
  subst (λ (us : List ℕ). Ring us (start_driver n) (start_device n)) (sym zeros)
      (split_laws.opens n plain_features false (start_frame n) can (made n)),
  λ small. sym (ap (λ (es : List Logged). tracked n es) none),
)

-- a chain of one piece may be offered first
pub may_start : (n : ℕ) (p : Piece) (c : List Piece) → c ≡ p ∷ [] → IsChain c → 1 ≤ n → p.len ≤ 4294967295
    → MayOffer split_driver.words (start_driver n) c
may_start n p c is chain some small = record {
  fits = record {
    chain = chain;
    size = subst (λ (xs : List Piece). length xs ≤ n) (sym is) some;
    length = subst (λ (xs : List Piece). total xs ≤ 4294967295) (sym is) (search rules);
    bounds = tt;
  };
  room = subst (λ (xs : List Piece). 0 + length xs ≤ n) (sym is) some;
  limited = search rules;
  control = λ on. absurd (cc on);
}

-- A ring over plain words after an operation of either end.
use Rattle.std.proofs.Common.{◌≡◌, ◌≢◌, ◌<◌, ◌≤◌, ◌+◌, ℕ, Bool, true, false, ◌↔◌, List, length, replicate, None, sym, ap, ◌∙◌, subst, refl, arith, inl, inr}
use Rattle.std.proofs.lemmas.List.{length-replicate}
use Rattle.vd_model.specs.declared.chain.Piece.{Piece}
use Rattle.vd_model.specs.declared.features.Features.{Features}
use Rattle.vd_words.specs.Plain.{RingWords}
use Rattle.vd_ring.specs.declared.frame.Frame.{Frame}
use Rattle.vd_model.specs.Chains.{IsChain, needs, total}
use Rattle.vd_ring.specs.Frames.{limit, AreInBounds}
use Rattle.vd_ring.specs.History.{offers, gives, running, IsWhole}
use Rattle.vd_ring.specs.Lists.{Lists}
use Rattle.vd_ring.specs.Fresh.{fresh_driver, fresh_device}
use Rattle.vd_ring.specs.declared.act.DriverAct.{DriverAct}
use Rattle.vd_ring.specs.declared.act.DriverAct.TheVariants as driver_act
use Rattle.vd_ring.specs.declared.act.DeviceAct.{DeviceAct}
use Rattle.vd_ring.specs.declared.act.DeviceAct.TheVariants as device_act
use Rattle.vd_ring.specs.declared.driver.DriverDone.{DriverDone}
use Rattle.vd_ring.specs.declared.device.DeviceDone.{DeviceDone}
use Rattle.vd_ring.specs.declared.driver.DriverView.{DriverView}
use Rattle.vd_ring.specs.declared.device.DeviceView.{DeviceView}
use Rattle.vd_layout.specs.Begun.{DriverOp, DeviceOp}
use Rattle.vd_layout.specs.Driver.{DriverModel, HasRoom, MayOffer}
use Rattle.vd_layout.specs.Device.{DeviceModel, is_rested}
use Rattle.vd_layout.specs.laws.Unarmed.{driver_unarmed, device_unarmed}
use Rattle.vd_layout.specs.laws.Runs.{still_awake}
use Rattle.vd_layout.specs.DriverFinish.{DriverLeaves}
use Rattle.vd_layout.specs.DeviceFinish.{DeviceLeaves}
use Rattle.vd_layout.specs.Ended.{DriverEnded, DeviceEnded}
use Rattle.vd_layout.specs.Layout.{LayoutModel, IsLawfulLayout, IsMadeWith, CanMake, IsFresh}
use Rattle.vd_layout.specs.Both.{AreOn, plain_frame}
use Rattle.vd_layout.specs.RingLists.{RingLists, no_lists, lists_of, and_offered, and_given, and_rested, after_driver, after_device, standing_size}
use Rattle.vd_layout.specs.PlainRing.{PlainView, frame_at, IsPlainRing, IsCollect, IsTake, IsDriverArm, IsDriverHear, IsDeviceArm, IsDeviceHear, IsDriverMove, IsDeviceMove, IsWholeList, most_chains}
use Rattle.vd_layout.proofs.RingSteps.{offered, collected, taken, given, rested}
use Rattle.vd_layout.proofs.RingArms as ring

-- an operation was begun
abbrev pub driver_begun : {D E : Type 0} (d : DriverModel D) (e : DeviceModel E) (l : LayoutModel) (f : Frame) (x x' : D) (y : E)
    (ws : List ℕ) → (on : AreOn d e l f x y ws) → d.stands x' on.view → AreOn d e l f x' y ws
driver_begun d e l f x x' y ws on stands = record {
  view = on.view;
  device_view = on.device_view;
  ring = on.ring;
  drives = stands;
  serves = on.serves;
  framed = on.framed;
}

abbrev pub device_begun : {D E : Type 0} (d : DriverModel D) (e : DeviceModel E) (l : LayoutModel) (f : Frame) (x : D) (y y' : E)
    (ws : List ℕ) → (on : AreOn d e l f x y ws) → e.stands y' on.device_view → AreOn d e l f x y' ws
device_begun d e l f x y y' ws on stands = record {
  view = on.view;
  device_view = on.device_view;
  ring = on.ring;
  drives = on.drives;
  serves = stands;
  framed = on.framed;
}

frames_same : (l : LayoutModel) (r r' n n' : ℕ) (g g' : Features) → r' ≡ r → n' ≡ n → g' ≡ g
    → plain_frame l r' n' g' false None ≡ plain_frame l r n g false None
frames_same l r r' n n' g g' a b c = cc

-- an operation was finished
pub record Kept {D E : Type 0} (d : DriverModel D) (e : DeviceModel E) (l : LayoutModel) (x x' : D) (y' : E) (ws us : RingWords)
    (h' : RingLists) (count limit : ℕ) (resting' : Bool) : Type 0 where
  pub ring : IsPlainRing d e l x' y' us h' count limit resting'
  pub frame : frame_at d l x' us ≡ frame_at d l x ws
  pub wide : length us.words ≡ length ws.words

pub kept : {D E : Type 0} (d : DriverModel D) (e : DeviceModel E) (l : LayoutModel) (law : IsLawfulLayout d e l) (x x' : D) (y y' : E)
    (ws us : RingWords) (h h' : RingLists) (count most : ℕ) (resting resting' : Bool) → IsPlainRing d e l x y ws h count most resting
    → (on : AreOn d e l (frame_at d l x ws) x' y' us.words) → h' ≡ lists_of on.view.done on.device_view.done → us.ring ≡ ws.ring
    → d.begun x' ≡ DriverOp.idle → e.begun y' ≡ DeviceOp.idle → e.resting y' ≡ resting'
    → Kept d e l x x' y' ws us h' count most resting'
kept d e l law x x' y y' ws us h h' count most resting resting' i on lists number driver_idle device_idle rests =
    let f : Frame = frame_at d l x ws in
    let sized = law.driver_end.sized x' on.view on.drives in
    let same : frame_at d l x' us ≡ f = frames_same l ws.ring us.ring (d.size x) (d.size x') (d.features x) (d.features x') number
    (sized.0 ∙ ap (λ (g : Frame). g.size) on.framed) (sized.1 ∙ ap (λ (g : Frame). g.features) on.framed) in
    let wide : length us.words ≡ length ws.words = (law.wide us.words on.view on.device_view on.ring).0
    ∙ ap (λ (g : Frame). l.width g) (on.framed ∙ sym i.on.framed)
    ∙ sym (law.wide ws.words i.on.view i.on.device_view i.on.ring).0 in record {
      ring = record {
        on = record {
          view = on.view;
          device_view = on.device_view;
          ring = on.ring;
          drives = on.drives;
          serves = on.serves;
          framed =
              on.framed ∙ sym same;
        };
        lists = lists;
        driver_idle = driver_idle;
        device_idle = device_idle;
        rests = rests;
        counted = i.counted ∙ sym wide;
        limited = i.limited ∙ ap (λ (g : Frame). limit g) (sym same);
      };
      frame = same;
      wide = wide;
    }

module _ {D E : Type 0} (d : DriverModel D) (e : DeviceModel E) (l : LayoutModel) (law : IsLawfulLayout d e l) (x x' x'' : D) (y : E)
    (ws us : RingWords) (h h' : RingLists) (count most : ℕ) (resting : Bool) (answer : DriverAct)
    (i : IsPlainRing d e l x y ws h count most resting) (stands : d.stands x' i.on.view)
    (z : DriverEnded d e l (frame_at d l x ws) x' x'' y ws.words us.words answer
    (driver_begun d e l (frame_at d l x ws) x x' y ws.words i.on stands)) where
  -- both sides' acts after it
  driver_lists : lists_of z.on.view.done z.on.device_view.done ≡ lists_of z.on.view.done i.on.device_view.done
  driver_lists = ap (λ (w : DeviceView). lists_of z.on.view.done w.done) z.same_device

  pub driver_kept : us.ring ≡ ws.ring → d.begun x'' ≡ DriverOp.idle → h' ≡ lists_of z.on.view.done i.on.device_view.done
      → Kept d e l x x'' y ws us h' count most resting
  driver_kept ring idle lists = kept d e l law x x'' y y ws us h h' count most resting resting i z.on
      (lists ∙ sym driver_lists) ring idle i.device_idle i.rests

  -- an end that was not armed is not armed after an operation other than an arming
  pub driver_sleepless : d.armed x ≡ false → d.begun x' ≢ DriverOp.arm → d.armed x'' ≡ d.armed x
  driver_sleepless unarmed other =
      driver_unarmed d law.driver_end x'' z.on.view z.on.drives
      (z.unarmed other (law.driver_end.unarmed x i.on.view i.on.drives unarmed)) ∙ sym unarmed

  -- an operation that was begun on an idle end leaves it armed as its answer says
  driver_left : DriverLeaves answer i.on.view.armed z.on.view.armed
  driver_left = z.leaves (law.driver_end.at_rest x i.on.view i.on.drives i.driver_idle)

  driver_tells : ring.Tells (d.armed x'') z.on.view.armed
  driver_tells = (law.driver_end.armed x'' z.on.view z.on.drives, law.driver_end.unarmed x'' z.on.view z.on.drives)

  pub driver_arms_on : IsDriverArm answer → (answer ≡ driver_act.Armed) ↔ (d.armed x'' ≡ true)
  driver_arms_on is = ring.driver_arms answer (d.armed x'') i.on.view.armed z.on.view.armed is driver_left driver_tells

  pub driver_hears_on : IsDriverHear answer → d.armed x ≡ true → (answer ≡ driver_act.Asleep) ↔ (d.armed x'' ≡ true)
  driver_hears_on is was = ring.driver_hears answer (d.armed x'') i.on.view.armed z.on.view.armed is driver_left
      (law.driver_end.armed x i.on.view i.on.drives was) driver_tells

  pub driver_disarms_on : answer ≡ driver_act.Awake → d.armed x'' ≡ false
  driver_disarms_on is = ring.driver_disarms answer (d.armed x'') i.on.view.armed z.on.view.armed is driver_left driver_tells

  pub collected_on : d.begun x' ≡ DriverOp.collect → h' ≡ after_driver answer h
      → IsCollect h answer × (h' ≡ lists_of z.on.view.done i.on.device_view.done)
  collected_on begun then =
      let ls : Lists z.on.view.frame z.on.view.done i.on.device_view.done =
      subst (λ (w : DeviceView). Lists z.on.view.frame z.on.view.done w.done) z.same_device
      (law.lists us.words z.on.view z.on.device_view z.on.ring) in
      let did = collected answer (d.begun x') i.on.view.frame z.on.view.frame i.on.view.done z.on.view.done i.on.device_view.done begun
      z.says ls z.nothing in
      (subst (λ (k : RingLists). IsCollect k answer) (sym i.lists) did.0, then ∙ ap (after_driver answer) i.lists ∙ sym did.1)

  pub offered_on : (c : List Piece) → d.begun x' ≡ DriverOp.offer c → h' ≡ and_offered c h
      → (answer ≡ driver_act.Offered (length h.offered)) × (h' ≡ lists_of z.on.view.done i.on.device_view.done)
  offered_on c begun then =
      let did = offered answer (d.begun x') i.on.view.frame i.on.view.done z.on.view.done i.on.device_view.done c begun z.says in
      (did.0 ∙ ap (λ (k : RingLists). driver_act.Offered (length k.offered)) (sym i.lists), then ∙ ap (and_offered c) i.lists ∙ sym did.1)

  -- an operation that changes no list
  pub driver_same : z.on.view.done ≡ i.on.view.done → h ≡ lists_of z.on.view.done i.on.device_view.done
  driver_same same = i.lists ∙ ap (λ (o : List DriverDone). lists_of o i.on.device_view.done) (sym same)

module _ {D E : Type 0} (d : DriverModel D) (e : DeviceModel E) (l : LayoutModel) (law : IsLawfulLayout d e l) (x : D) (y y' y'' : E)
    (ws us : RingWords) (h h' : RingLists) (count most : ℕ) (resting : Bool) (answer : DeviceAct)
    (i : IsPlainRing d e l x y ws h count most resting) (stands : e.stands y' i.on.device_view)
    (z : DeviceEnded d e l (frame_at d l x ws) x y' y'' ws.words us.words answer
    (device_begun d e l (frame_at d l x ws) x y y' ws.words i.on stands)) where
  device_lists : lists_of z.on.view.done z.on.device_view.done ≡ lists_of i.on.view.done z.on.device_view.done
  device_lists = ap (λ (v : DriverView). lists_of v.done z.on.device_view.done) z.same_driver

  pub device_kept : (resting' : Bool) → us.ring ≡ ws.ring → e.begun y'' ≡ DeviceOp.idle → e.resting y'' ≡ resting'
      → h' ≡ lists_of i.on.view.done z.on.device_view.done → Kept d e l x x y'' ws us h' count most resting'
  device_kept resting' ring idle rests lists =
      kept d e l law x x y y'' ws us h h' count most resting resting' i z.on (lists ∙ sym device_lists) ring i.driver_idle idle rests

  pub device_sleepless : e.armed y ≡ false → e.begun y' ≢ DeviceOp.arm → e.armed y'' ≡ false
  device_sleepless unarmed other =
      device_unarmed e law.device_end y'' z.on.device_view z.on.serves
      (z.unarmed other (law.device_end.not_armed y i.on.device_view i.on.serves unarmed))

  device_left : DeviceLeaves answer i.on.device_view.armed z.on.device_view.armed
  device_left = z.leaves (law.device_end.at_rest y i.on.device_view i.on.serves i.device_idle)

  device_tells : ring.Tells (e.armed y'') z.on.device_view.armed
  device_tells = (
    law.device_end.armed y'' z.on.device_view z.on.serves,
    law.device_end.not_armed y'' z.on.device_view z.on.serves,
  )

  pub device_arms_on : IsDeviceArm answer → (answer ≡ device_act.Armed) ↔ (e.armed y'' ≡ true)
  device_arms_on is = ring.device_arms answer (e.armed y'') i.on.device_view.armed z.on.device_view.armed is device_left device_tells

  pub device_hears_on : IsDeviceHear answer → e.armed y ≡ true → (answer ≡ device_act.Asleep) ↔ (e.armed y'' ≡ true)
  device_hears_on is was = ring.device_hears answer (e.armed y'') i.on.device_view.armed z.on.device_view.armed is device_left
      (law.device_end.armed y i.on.device_view i.on.serves was) device_tells

  pub device_disarms_on : answer ≡ device_act.Awake → e.armed y'' ≡ false
  device_disarms_on is = ring.device_disarms answer (e.armed y'') i.on.device_view.armed z.on.device_view.armed is device_left device_tells

  -- only a rest leaves it resting
  pub device_awake : e.begun y' ≢ DeviceOp.rest → e.resting y'' ≡ is_rested answer → e.resting y'' ≡ false
  device_awake other rests = rests ∙ still_awake e.words answer (e.begun y') DeviceOp.idle i.on.device_view.frame i.on.device_view.done
      z.on.device_view.done other z.says

  pub taken_on : e.begun y' ≡ DeviceOp.take → h' ≡ after_device answer 0 h
      → IsTake h answer × (h' ≡ lists_of i.on.view.done z.on.device_view.done)
  taken_on begun then =
      let ls : Lists z.on.view.frame i.on.view.done z.on.device_view.done =
      subst (λ (v : DriverView). Lists z.on.view.frame v.done z.on.device_view.done) z.same_driver
      (law.lists us.words z.on.view z.on.device_view z.on.ring) in
      let did = taken e.words answer (e.begun y') i.on.device_view.frame z.on.view.frame i.on.view.done i.on.device_view.done
      z.on.device_view.done begun z.says ls z.nothing in
      (subst (λ (k : RingLists). IsTake k answer) (sym i.lists) did.0, then ∙ ap (after_device answer 0) i.lists ∙ sym did.1)

  pub given_on : (k n : ℕ) → e.begun y' ≡ DeviceOp.give k n → h' ≡ after_device answer n h
      → (answer ≡ device_act.Given k) × (h' ≡ and_given k n h) × (h' ≡ lists_of i.on.view.done z.on.device_view.done)
  given_on k n begun then =
      let did = given e.words answer (e.begun y') i.on.device_view.frame i.on.view.done i.on.device_view.done z.on.device_view.done k n
      begun z.says in
      let now : h' ≡ and_given k n h = then ∙ ap (λ z. after_device z n h) did.0 in
      (did.0, now, now ∙ ap (and_given k n) i.lists ∙ sym did.1)

  pub rested_on : e.begun y' ≡ DeviceOp.rest → h' ≡ after_device answer 0 h → (answer ≡ device_act.Rested) × (h' ≡ and_rested h)
      × (h' ≡ lists_of i.on.view.done z.on.device_view.done)
  rested_on begun then =
      let did = rested e.words answer (e.begun y') i.on.device_view.frame i.on.view.done i.on.device_view.done z.on.device_view.done
      begun z.says in
      let now : h' ≡ and_rested h = then ∙ ap (λ z. after_device z 0 h) did.0 in
      (did.0, now, now ∙ ap and_rested i.lists ∙ sym did.1)

  -- a device that rests is not armed
  pub device_still_unarmed : e.resting y'' ≡ true → e.armed y'' ≡ false
  device_still_unarmed rests = law.device_end.unarmed_still y'' z.on.device_view z.on.serves (inl rests)

  pub device_same : z.on.device_view.done ≡ i.on.device_view.done → h ≡ lists_of i.on.view.done z.on.device_view.done
  device_same same = i.lists ∙ ap (λ (s : List DeviceDone). lists_of i.on.view.done s) (sym same)

-- ---- a chain that may be offered

pub may_offer : {D E : Type 0} (d : DriverModel D) (e : DeviceModel E) (l : LayoutModel) (x : D) (y : E) (ws : RingWords)
    (h : RingLists) (count most : ℕ) (resting : Bool) → (i : IsPlainRing d e l x y ws h count most resting) → (c : List Piece) → IsChain c
    → standing_size (d.features x) h + needs (d.features x) c ≤ d.size x → total c ≤ 4294967295
    → length h.offered < limit (frame_at d l x ws) → MayOffer d.words i.on.view c
may_offer d e l x y ws h count most resting i c is room bytes limited =
    let f : Frame = frame_at d l x ws in
    let back : f ≡ i.on.view.frame = sym i.on.framed in record {
      fits = record {
        chain = is;
        size = subst (λ (g : Frame). needs g.features c ≤ g.size) back (omega (arith, room));
        length = bytes;
        bounds = subst (λ (g : Frame). AreInBounds g.bounds c) back tt;
      };
      room = subst (λ (g : Frame). HasRoom g i.on.view.done c) back
          (subst (λ (k : RingLists). standing_size (d.features x) k + needs (d.features x) c ≤ d.size x) i.lists room);
      limited = subst (λ (g : Frame). length (offers i.on.view.done) < limit g) back
          (subst (λ (k : RingLists). length k.offered < limit f) i.lists limited);
      control = λ on. absurd (cc (on, ap (λ (g : Frame). g.control) i.on.framed));
    }

-- ---- what is left as it was, told of the views

pub driver_moved : (a z b : PlainView) (P : PlainView → Type 0) → z ≡ a → IsDriverMove z b × P z → IsDriverMove a b × P a
driver_moved a z b P is h = subst (λ (v : PlainView). IsDriverMove v b × P v) is h

pub device_moved : (a z b : PlainView) (P : PlainView → Type 0) → z ≡ a → IsDeviceMove z b × P z → IsDeviceMove a b × P a
device_moved a z b P is h = subst (λ (v : PlainView). IsDeviceMove v b × P v) is h

pub device_moved_only : (a z b : PlainView) → z ≡ a → IsDeviceMove z b → IsDeviceMove a b
device_moved_only a z b is h = subst (λ (v : PlainView). IsDeviceMove v b) is h

-- ---- what the ends tell, said of the lists

module _ {D E : Type 0} (d : DriverModel D) (e : DeviceModel E) (l : LayoutModel) (law : IsLawfulLayout d e l) (x : D) (y : E)
    (ws : RingWords) (h : RingLists) (count most : ℕ) (resting : Bool) (i : IsPlainRing d e l x y ws h count most resting) where
  pub room_is : (c : List Piece)
      → HasRoom i.on.view.frame i.on.view.done c ↔ (standing_size (d.features x) h + needs (d.features x) c ≤ d.size x)
  room_is c = (
    λ room. subst (λ (k : RingLists). standing_size (d.features x) k + needs (d.features x) c ≤ d.size x) (sym i.lists)
        (subst (λ (g : Frame). HasRoom g i.on.view.done c) i.on.framed room),
    λ room. subst (λ (g : Frame). HasRoom g i.on.view.done c) (sym i.on.framed)
        (subst (λ (k : RingLists). standing_size (d.features x) k + needs (d.features x) c ≤ d.size x) i.lists room),
  )

  pub offered_is : length (offers i.on.view.done) ≡ length h.offered
  offered_is = sym (ap (λ (k : RingLists). length k.offered) i.lists)

  pub given_is : length (gives i.on.device_view.done) ≡ length h.given
  given_is = sym (ap (λ (k : RingLists). length k.given) i.lists)

  pub running_is : running i.on.device_view.done ≡ h.running
  running_is = sym (ap (λ (k : RingLists). k.running) i.lists)

  pub features_are : e.features y ≡ d.features x
  features_are = (law.device_end.sized y i.on.device_view i.on.serves).1
      ∙ ap (λ (g : Frame). g.features) ((law.wide ws.words i.on.view i.on.device_view i.on.ring).1 ∙ i.on.framed)

  pub whole_is : IsWhole i.on.device_view.done ↔ IsWholeList h
  whole_is = (λ w. subst (λ (k : RingLists). IsWholeList k) (sym i.lists) w, λ w. subst (λ (k : RingLists). IsWholeList k) i.lists w)

-- ---- a fresh ring

pub fresh_ring : {D E : Type 0} (d : DriverModel D) (e : DeviceModel E) (l : LayoutModel) (law : IsLawfulLayout d e l) (ring size : ℕ)
    (f : Features) (x : D) (y : E) (ws : RingWords) (h : RingLists) (count most : ℕ) → CanMake l size f → IsFresh d e l size f false x y
    → ws.ring ≡ ring → ws.words ≡ replicate count 0 → count ≡ l.width (plain_frame l ring size f false None)
    → most ≡ most_chains ring → h ≡ no_lists → IsPlainRing d e l x y ws h count most false
    × (frame_at d l x ws ≡ plain_frame l ring size f false None) × (ws.words ≡ replicate (l.width (frame_at d l x ws)) 0)
    × (e.armed y ≡ false)
fresh_ring d e l law ring size f x y ws h count most can fresh number words wide bound lists =
    let g : Frame = plain_frame l ring size f false None in
    let same : frame_at d l x ws ≡ g =
    frames_same l ring ws.ring size (d.size x) f (d.features x) number fresh.driver_sized.0 fresh.driver_sized.1 in
    let with : IsMadeWith l size f false g = record { packed = refl; size = refl; features = refl; control = refl } in
    let v : DriverView = fresh_driver g (l.width g) in
    let w : DeviceView = fresh_device g (l.width g) in (
      record {
        on = record {
          view = v;
          device_view = w;
          ring = subst (λ (us : List ℕ). l.ring us v w) (sym (words ∙ ap (λ n. replicate n 0) wide)) (law.opens size f false g can with);
          drives = fresh.drives g with;
          serves = fresh.serves g with;
          framed = sym same;
        };
        lists = lists;
        driver_idle = fresh.driver_idle;
        device_idle = fresh.device_idle;
        rests = fresh.awake;
        counted = sym (ap (λ (zs : List ℕ). length zs) words ∙ length-replicate count 0);
        limited = bound ∙ ap most_chains (sym number);
      },
      same,
      words ∙ ap (λ n. replicate n 0) (wide ∙ ap (λ (k : Frame). l.width k) (sym same)),
      law.device_end.unarmed_still y w (fresh.serves g with) (inr fresh.unused),
    )

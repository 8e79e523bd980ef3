-- A device that becomes a new image.
use Rattle.std.proofs.Common.{◌+◌, ◌≡◌, ◌⊎◌, ℕ, ◌<◌, ◌≤◌, zero, suc, List, [], inl, inr, ⊎_elim, refl, sym, ◌∙◌, subst, arith, length}
use Rattle.std.specs.Prelude.{replicate, take, All}
use Rattle.medium.specs.Medium.{Image, CutLeaves}
use Rattle.logical_blocks.specs.Blocks.{Array}
use Rattle.window.{specs.{Device.{Device, put, after}, declared.call.DeviceCall.DeviceCall}, proofs.OutboxCalls.after-append}
use Rattle.journal.specs.{Places.{Shape, first_home, sectors_of}, Sectors.{IsSuper, IsHead}, Standing.IsOurs}
use Rattle.recovery.{specs.Calls.IsNoneOrNew, proofs.JoinedCalls.zeros_ours}
use Rattle.device_file.specs.Copied.{some_writes}
use Rattle.usbdisk.specs.{images.CopyLaws.{IsImageOf, MakeImageOf, array_of}, images.NewImage.{emptied, making, MakeNewImage}}
use Rattle.usbdisk.proofs.Written.{put_elsewhere, writes_before, writes_there}

abbrev zeros : List ℕ
zeros = replicate 512 0

-- of two numbers
abbrev Same : ℕ → ℕ → Type 0
Same m n = m ≡ n

-- a device with no super and an empty log, which has this array at home
record IsReady (shape : Shape) (array : Array) (device : Device) : Type 0 where
  none : device.content 0 ≡ zeros
  log : (s : ℕ) → 2 ≤ s → s < first_home shape → device.content s ≡ zeros
  home : (b : ℕ) → b < shape.blocks → device.content (first_home shape + b) ≡ array b

module _ (shape : Shape) (super head : List ℕ) (size : ℕ) (is_super : IsSuper shape super) (is_head : IsHead 1 head)
    (fits : sectors_of shape ≤ size) (array : Array) (device : Device) (ready : IsReady shape array device) where
  whole : (image : Image) → image 0 ≡ super → image 1 ≡ head → ((s : ℕ) → 2 ≤ s → image s ≡ device.content s)
      → IsOurs size shape image array 2
  whole image at_0 at_1 behind = zeros_ours size shape array image fits
      (subst (IsSuper shape) (sym at_0) is_super) (subst (IsHead 1) (sym at_1) is_head)
      (λ s low high. behind s low ∙ ready.log s low high)
      (λ b below. behind (first_home shape + b) (omega (arith, is_super.home_is.0)) ∙ ready.home b below)

  -- when all is carried out
  abbrev made : Image
  made = put 0 super (put 1 head device.content)

  made_behind : (s : ℕ) → 2 ≤ s → made s ≡ device.content s
  made_behind s low = put_elsewhere 0 s super (put 1 head device.content) (λ e. omega (arith, low, e))
      ∙ put_elsewhere 1 s head device.content (λ e. omega (arith, low, e))

  -- a cut before the last flush leaves the super or zeros
  cut_last : (image : Image) → ((s : ℕ) → (image s ≡ put 1 head device.content s) ⊎ ((s ≡ 0) × (image s ≡ super)))
      → IsNoneOrNew size shape array image
  cut_last image left = ⊎_elim (λ old. inl (old ∙ ready.none))
      (λ here. inr (whole image here.1 (at_one (left 1)) (λ s low. behind s low (left s)))) (left 0)
    where
      at_one : ((image 1 ≡ head) ⊎ (Same 1 0 × (image 1 ≡ super))) → image 1 ≡ head
      at_one (inl is) = is
      at_one (inr not) = absurd (omega (arith, not.0))

      behind : (s : ℕ) → 2 ≤ s → ((image s ≡ put 1 head device.content s) ⊎ ((s ≡ 0) × (image s ≡ super)))
          → image s ≡ device.content s
      behind s low (inl is) = is ∙ put_elsewhere 1 s head device.content (λ e. omega (arith, low, e))
      behind s low (inr not) = absurd (omega (arith, low, not.0))

  abbrev no_calls : List DeviceCall
  no_calls = []

  none_left : (n : ℕ) → take n no_calls ≡ []
  none_left zero = refl
  none_left (suc n) = refl

  first_zero : (image : Image) → ((image 0 ≡ device.content 0) ⊎ (Same 0 1 × (image 0 ≡ head))) → image 0 ≡ zeros
  first_zero image (inl is) = is ∙ ready.none
  first_zero image (inr not) = absurd (omega (arith, not.0))

  cuts : (count : ℕ) (image : Image) → 1 ≤ count → CutLeaves (after device (take count (making super head))).may_leave image
      → IsNoneOrNew size shape array image
  cuts zero image some left = absurd (omega (arith, some))
  cuts (suc zero) image some left = inl (left 0 ∙ ready.none)
  cuts (suc (suc zero)) image some left = inl (first_zero image (left 0))
  cuts (suc (suc (suc zero))) image some left = inl (left 0 ∙ ready.none)
  cuts (suc (suc (suc (suc zero)))) image some left = cut_last image left
  cuts (suc (suc (suc (suc (suc n))))) image some left =
      let all : (s : ℕ) → image s ≡ made s = subst
      (λ (l : List DeviceCall). (s : ℕ) → (after (after device (making super head)) l).may_leave s (image s)) (none_left n) left in
      inr (whole image (all 0) (all 1) (λ s low. all s ∙ made_behind s low))

  becomes : IsImageOf size shape array (after device (making super head))
  becomes = record {
    durable = λ s c left. left;
    super = is_super;
    head = is_head;
    log = λ s low high. made_behind s low ∙ ready.log s low high;
    ours = whole made refl refl made_behind;
  }

module _ (shape : Shape) (super head : List ℕ) (size : ℕ) (is_super : IsSuper shape super) (is_head : IsHead 1 head)
    (fits : sectors_of shape ≤ size) where
  empty_ready : IsReady shape (λ b. zeros) emptied
  empty_ready = record { none = refl; log = λ s low high. refl; home = λ b below. refl }

  pub makes_new : MakeNewImage size shape (making super head)
  makes_new = let made = becomes shape super head size is_super is_head fits (λ b. zeros) emptied empty_ready in record {
    all = record {
      durable = made.durable;
      super = is_super;
      head = is_head;
      zeros = made_behind shape super head size is_super is_head fits (λ b. zeros) emptied empty_ready;
      ours = made.ours;
    };
    cuts = cuts shape super head size is_super is_head fits (λ b. zeros) emptied empty_ready;
  }

  -- and behind the writes of blocks
  module _ (blocks : List (List ℕ)) (count : length blocks ≡ shape.blocks) (sized : All (λ block. length block ≡ 512) blocks) where
    abbrev writes : List DeviceCall
    writes = some_writes (first_home shape) blocks

    abbrev copied : Device
    copied = after emptied writes

    copied_ready : IsReady shape (array_of blocks) copied
    copied_ready = record {
      none = writes_before emptied (first_home shape) blocks 0 (omega (arith, is_super.home_is.0));
      log = λ s low high. writes_before emptied (first_home shape) blocks s high;
      home = λ b below. writes_there emptied (first_home shape) blocks sized (λ s above. refl) b (omega (arith, below, count));
    }

    pub makes_image : MakeImageOf size shape (array_of blocks) writes (making super head)
    makes_image = record {
      all = subst (λ (device : Device). IsImageOf size shape (array_of blocks) device)
          (sym (after-append emptied writes (making super head)))
          (becomes shape super head size is_super is_head fits (array_of blocks) copied copied_ready);
      cuts = λ count image some left. cuts shape super head size is_super is_head fits (array_of blocks) copied copied_ready
          count image some
          (λ s. subst (λ (device : Device). device.may_leave s (image s)) (after-append emptied writes (take count (making super head)))
          (left s));
    }

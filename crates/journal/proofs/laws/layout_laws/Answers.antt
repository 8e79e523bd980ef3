use Rattle.std.proofs.Common.{refl, sym, ◌∙◌, arith}
use Rattle.journal.proofs.SectorNumbers.{IsSuper-one, IsHead-one, descriptor_says, descriptor_number, descriptor_numbers, commit_says}
use Rattle.journal.proofs.SlotTwo.{IsDescriptorTwo-one}
use Rattle.journal.proofs.laws.layout_laws.Goals as goal

pub returns : goal.returns
returns c = record {
  super = λ bytes a b s t. IsSuper-one a b bytes s t;
  head = λ bytes a b h k. IsHead-one a b bytes h k;
  descriptor = λ bytes a b ns ms d e. (
    sym (descriptor_says d).0 ∙ (descriptor_says e).0,
    descriptor_numbers e (sym (descriptor_says d).1) (record { count = refl; each = λ i below. sym (descriptor_number d i below) }),
  );
  commit = λ bytes a b m n x y. grind (arith, commit_says x, commit_says y);
  descriptor_two = IsDescriptorTwo-one;
  commit_two = λ bytes a b m n x y. grind (arith, commit_says x, commit_says y);
}

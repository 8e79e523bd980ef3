use Rattle.std.proofs.Common.{◌≡◌, ℕ, zero, suc, ◌+◌, ◌*◌, ◌-◌, ◌/◌, ◌<◌, List, [], length, get_or, drop, refl, arith}
use Rattle.std.proofs.lemmas.{Grind.elements, List.drop-drop}
use Rattle.std.specs.Simd.{first_chunks}
use Rattle.cache.specs.Blocks.{block_at}
use Rattle.cache.proofs.append.write_blocks.Goals as goal

-- one of the blocks
chunk_at : (k i : ℕ) (bytes : List ℕ) → i < k → get_or (first_chunks 512 k bytes) i [] ≡ block_at bytes i
chunk_at zero i bytes below = absurd (omega (arith, below))
chunk_at (suc k) zero bytes below = refl
chunk_at (suc k) (suc i) bytes below =
    let next : 512 * suc i ≡ 512 + 512 * i = omega arith in
    rw (next, ← drop-drop (512 * i) 512 bytes) (chunk_at k i (drop 512 bytes) (omega (arith, below)))

pub returns : goal.returns
returns c =
    let blocks = c.as_chunks.result.0.now in
    let many : c.args.from + length blocks - c.args.from ≡ length blocks = omega arith in
    rw (many, c.copy_from_slice.ensures.after) record {
      written = λ i below. grind (arith, elements, chunk_at (length c.args.bytes.now / 512) i c.args.bytes.now, c.as_chunks.ensures.front);
      before = λ k below. grind (arith, elements);
    }

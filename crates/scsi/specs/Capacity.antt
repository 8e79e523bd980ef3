-- READ CAPACITY data (SBC-3, READ CAPACITY (10) and READ CAPACITY (16)) of a medium of n blocks.
use Rattle.std.specs.Prelude.{ℕ, ◌-◌, List, ◌++◌, replicate}
use Rattle.byteorder.specs.Endian.{big_bytes}

-- READ CAPACITY (10), 8 bytes
unfoldable pub capacity_10 : ℕ → List ℕ
capacity_10 n =
    -- 0, returned logical block address: that of the last block
    big_bytes 4 (n - 1)
    -- 4, block length in bytes
    ++ big_bytes 4 512

-- READ CAPACITY (16), 32 bytes
unfoldable pub capacity_16 : ℕ → List ℕ
capacity_16 n =
    -- 0, returned logical block address: that of the last block
    big_bytes 8 (n - 1)
    -- 8, block length in bytes
    ++ big_bytes 4 512
    -- 12, no protection, no alignment, no provisioning
    ++ replicate 20 0x00

use Rattle.kinds.proofs.Primitive.kind.Goals as goal

pub returns-in-Char : goal.returns-in-Char
returns-in-Char c = rw c.in-Char.is

pub returns-in-Short : goal.returns-in-Short
returns-in-Short c = rw c.in-Short.is

pub returns-in-Int : goal.returns-in-Int
returns-in-Int c = rw c.in-Int.is

pub returns-in-Long : goal.returns-in-Long
returns-in-Long c = rw c.in-Long.is

pub returns-in-LongLong : goal.returns-in-LongLong
returns-in-LongLong c = rw c.in-LongLong.is

pub returns-in-UChar : goal.returns-in-UChar
returns-in-UChar c = rw c.in-UChar.is

pub returns-in-UShort : goal.returns-in-UShort
returns-in-UShort c = rw c.in-UShort.is

pub returns-in-UInt : goal.returns-in-UInt
returns-in-UInt c = rw c.in-UInt.is

pub returns-in-ULong : goal.returns-in-ULong
returns-in-ULong c = rw c.in-ULong.is

pub returns-in-ULongLong : goal.returns-in-ULongLong
returns-in-ULongLong c = rw c.in-ULongLong.is

pub returns-in-Float : goal.returns-in-Float
returns-in-Float c = rw c.in-Float.is

pub returns-in-Double : goal.returns-in-Double
returns-in-Double c = rw c.in-Double.is

pub returns-in-LongDouble : goal.returns-in-LongDouble
returns-in-LongDouble c = rw c.in-LongDouble.is

pub returns-in-FloatComplex : goal.returns-in-FloatComplex
returns-in-FloatComplex c = rw c.in-FloatComplex.is

pub returns-in-DoubleComplex : goal.returns-in-DoubleComplex
returns-in-DoubleComplex c = rw c.in-DoubleComplex.is

pub returns-in-LongDoubleComplex : goal.returns-in-LongDoubleComplex
returns-in-LongDoubleComplex c = rw c.in-LongDoubleComplex.is

pub returns-in-Bool : goal.returns-in-Bool
returns-in-Bool c = rw c.in-Bool.is

pub returns-in-Void : goal.returns-in-Void
returns-in-Void c = rw c.in-Void.is

pub returns-in-String : goal.returns-in-String
returns-in-String c = rw c.in-String.is

pub returns-in-Object : goal.returns-in-Object
returns-in-Object c = rw c.in-Object.is

pub returns-in-Block : goal.returns-in-Block
returns-in-Block c = rw c.in-Block.is

pub returns-in-Class : goal.returns-in-Class
returns-in-Class c = rw c.in-Class.is

pub returns-in-Sel : goal.returns-in-Sel
returns-in-Sel c = rw c.in-Sel.is

pub returns-in-Unknown : goal.returns-in-Unknown
returns-in-Unknown c = rw c.in-Unknown.is

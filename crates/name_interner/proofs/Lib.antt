mod Interned

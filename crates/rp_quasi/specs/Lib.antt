pub mod QuasilinearVerdict
